-- From the desk of no request, in memory.
use Rattle.std.proofs.Common.{ℕ, List, [], Option, Result}
use Rattle.review_machine_rows.specs.{Rows.Tables, Shelf.in_memory, View.IsView}
use Rattle.review_machine_deliveries.specs.Delivered.{WasRun}
use Rattle.review_json_lines.specs.{Answers.WereAnswered, declared.fault.Fault.Fault, declared.fault.Outcome.Outcome}
use Rattle.review_machine.specs.Memory.{RanFromNothing, RunsFromNothing}

-- a run from its tables is one from the history of no request
pub from_nothing : (input before after : Option (List ℕ)) (told : Result Outcome Fault) (first last : Tables) → IsView [] first
    → WereAnswered (λ ds replies. WasRun ds replies (in_memory first) (in_memory last)) input before after told → RanFromNothing input before after told
from_nothing input before after told first last view all =
    let answered : WereAnswered (RunsFromNothing first last) input before after told = record {
      lines = all.lines;
      replies = all.replies;
      first = all.first;
      each = all.each;
      did = (all.did.acts_once tt [] tt view, all.did.branches tt [] tt view, all.did.projects tt [] tt view, all.did.votes tt [] tt view);
      text = all.text;
      written = all.written;
      whole = all.whole;
      left = all.left;
    } in
    (first, last, view, answered)
