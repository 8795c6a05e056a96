use Rattle.std.proofs.Common.{◌≡◌, ◌+◌, ◌<◌, ◌^◌, length, map, ◌++◌, drop}
use Rattle.review_chain.specs.Places.{places_from}
use Rattle.review_chain.proofs.places.joins.Given as goal

abbrev pub invariant-loop-change : goal.invariant-loop-change
invariant-loop-change l = record {
  order : map (λ j. j.0) l.joined.items ++ drop l.change-index l.changes ≡ l.changes;
  placed : l.initial.place + length l.changes < 2 ^ 32 →
      (l.place ≡ l.initial.place + l.change-index) × (l.joined.items ++ places_from (l.place + 1) (drop l.change-index l.changes) ≡ places_from (l.initial.place + 1) l.changes);
}
