use Rattle.std.proofs.Common.{rules, ◌≡◌, to_z, of_z, w8, bytes_eq}
use Rattle.review_names.specs.Groups.{has_account}
use Rattle.review_file_rules.specs.Rights.{granted, least_of, greatest_of}
use Rattle.review_file.proofs.Ranges.{range_ends}
use Rattle.review_file.proofs.granted.range_of.Goals as goal

pub returns-clause-values : goal.returns-clause-values
returns-clause-values c =
    let low : to_z w8 (of_z w8 c.least_of.result) ≡ least_of (granted c.args.file.now c.args.label.now (λ group. has_account c.args.groups.now group c.args.account)) = search rules in
    let high : to_z w8 (of_z w8 c.greatest_of.result) ≡ greatest_of (granted c.args.file.now c.args.label.now (λ group. has_account c.args.groups.now group c.args.account)) = search rules in
    rw (low, high)
    (range_ends (λ l. bytes_eq l.name c.args.label.now) c.args.file.now.labels (λ g. has_account c.args.groups.now g.group c.args.account) c.facts.ensures.labels)
