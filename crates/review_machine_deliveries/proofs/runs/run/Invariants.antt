use Rattle.std.proofs.Common.{◌≡◌, ◌≤◌, take, length, vec_len, vec_capacity}
use Rattle.review_machine_deliveries.specs.Delivered.{WasRun}
use Rattle.review_machine_deliveries.proofs.runs.run.Given as goal

-- so far it is the run of the deliveries so far, and there is room for the rest
abbrev pub invariant-loop-delivery : goal.invariant-loop-delivery
invariant-loop-delivery g l = record {
  so_far : WasRun (take l.delivery-index l.deliveries) l.replies.items (g.S.Shelf.state l.fn.shelf) (g.S.Shelf.state l.shelf);
  count : vec_len l.replies ≡ l.delivery-index;
  room : length l.deliveries ≤ vec_capacity l.replies;
}
