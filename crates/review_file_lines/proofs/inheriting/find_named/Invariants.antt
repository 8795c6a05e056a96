use Rattle.std.{proofs.Common.◌≡◌, proofs.Common.drop, specs.Prelude.find, specs.Str.bytes_eq}
use Rattle.review_file_lines.proofs.inheriting.find_named.Given as goal

abbrev pub invariant-loop-requirement : goal.invariant-loop-requirement
invariant-loop-requirement l = find (λ a. bytes_eq a.name l.name) (drop l.requirement-index l.requirements) ≡ find (λ a. bytes_eq a.name l.name) l.requirements
