use Rattle.std.{proofs.Common.take, specs.List.All}
use Rattle.{review_table.specs.Rows.rows_of, review_memory.specs.Desk.IsHeld}
use Rattle.review_memory.proofs.changes.names_held.Given as goal

abbrev pub invariant-loop-change : goal.invariant-loop-change
invariant-loop-change l = All (IsHeld (rows_of l.accounts) l.names.items) (take l.change-index l.changes)
