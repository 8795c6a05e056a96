use Rattle.std.proofs.Common.{◌≡◌, map, drop}
use Rattle.std.specs.{Int.int_max, Prelude.filter, Prelude.fold}
use Rattle.{review_names.specs.Groups.has_account, review_file_rules.specs.Rights.greatest_of}
use Rattle.review_file.proofs.granted.greatest_of.Given as goal

abbrev pub invariant-loop-grant : goal.invariant-loop-grant
invariant-loop-grant l =
    fold int_max l.greatest (map (λ g. g.greatest) (filter (λ g. has_account l.groups g.group l.account) (drop l.grant-index l.grants)))
    ≡ greatest_of (filter (λ g. has_account l.groups g.group l.account) l.grants)
