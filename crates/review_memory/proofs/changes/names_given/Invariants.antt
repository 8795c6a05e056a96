use Rattle.std.{proofs.Common.take, specs.List.All}
use Rattle.review_memory.specs.Desk.{IsGiven, IsNameOf}
use Rattle.review_memory.proofs.changes.names_given.Given as goal

abbrev pub invariant-loop-change : goal.invariant-loop-change
invariant-loop-change l = record {
  all : All (IsGiven l.names.items) (take l.change-index l.changes);
  only : All (IsNameOf l.changes) l.names.items;
}
