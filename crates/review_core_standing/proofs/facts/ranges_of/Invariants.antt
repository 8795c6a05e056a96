use Rattle.std.proofs.Common.{◌≡◌, ℕ, List, drop, nat_cmp, find, option_map, bytes_eq}
use Rattle.std.specs.{BTreeMap.get, Cmp.Lexicographic.slice_cmp, Option.option_or}
use Rattle.review_core_rules.specs.Change.{range_of}
use Rattle.review_core_standing.proofs.facts.ranges_of.Given as goal

abbrev pub invariant-loop-label : goal.invariant-loop-label
invariant-loop-label l = (name : List ℕ) → option_or (get (slice_cmp nat_cmp) l.ranges name) (option_map range_of (find (λ x. bytes_eq x.name name) (drop l.label-index l.labels))) ≡ option_map range_of (find (λ x. bytes_eq x.name name) l.labels)
