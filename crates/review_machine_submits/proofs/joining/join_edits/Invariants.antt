use Rattle.std.{proofs.Common.List, proofs.Common.drop, proofs.Common.◌++◌, specs.List.AllByRecursion}
use Rattle.review_machine_rows.specs.{Decisions.NamesRowsOnce, declared.rows.ChangeEdit.ChangeEdit}
use Rattle.review_machine_submits.specs.Submits.{AreJoinEdits, IsThere}
use Rattle.review_machine_submits.proofs.joining.join_edits.Given as goal

-- the edits so far and those of the rest are those of all
abbrev pub invariant-loop-change : goal.invariant-loop-change
invariant-loop-change l = record {
  there : AllByRecursion (λ j. IsThere l.rows j.0) (drop l.change-index l.joined);
  edits : (more : List ChangeEdit) → AreJoinEdits l.rows l.request (drop l.change-index l.joined) more → AreJoinEdits l.rows l.request l.joined (l.edits.items ++ more);
  once : AllByRecursion NamesRowsOnce l.edits.items;
}
