use denote.Shadow.{shadow}
use denote.Text.{Utf8}
use Rattle.{std.proofs.Common.length, review_sql_change_records.proofs.Lines.AreLinesSoFar}
use Rattle.review_sql_change_records.proofs.paths.read_paths.Given as goal

abbrev pub invariant-loop-line : goal.invariant-loop-line
invariant-loop-line l = record { so_far : AreLinesSoFar l.fn.text l.paths.items l.rest; utf8 : shadow (Utf8 l.rest) }

abbrev pub decreases-loop-line : goal.decreases-loop-line
decreases-loop-line l = length l.rest
