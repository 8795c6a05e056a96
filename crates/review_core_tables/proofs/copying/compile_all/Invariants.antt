use Rattle.std.{proofs.Common.◌≡◌, proofs.Common.map, proofs.Common.take, specs.List.All}
use Rattle.review_core_tables.specs.{Conditions.IsCompiled, declared.copying.Condition.Condition}
use Rattle.review_core_tables.proofs.copying.compile_all.Given as goal

abbrev pub invariant-loop-label : goal.invariant-loop-label
invariant-loop-label l = (map (λ (c : Condition). c.label.now) l.list.items ≡ take l.label-index l.labels) × All IsCompiled l.list.items
