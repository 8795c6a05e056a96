use Rattle.std.{proofs.Common.◌≡◌, proofs.Common.drop, specs.Prelude.find, specs.Str.bytes_eq}
use Rattle.review_core_tables.proofs.copying.condition_on.Given as goal

abbrev pub invariant-loop-condition : goal.invariant-loop-condition
invariant-loop-condition l = find (λ c. bytes_eq c.label.now.name l.name) (drop l.condition-index l.list) ≡ find (λ c. bytes_eq c.label.now.name l.name) l.list
