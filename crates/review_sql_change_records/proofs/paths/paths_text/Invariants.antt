use Rattle.std.proofs.Common.{◌≡◌, drop, string_bytes}
use Rattle.review_sql_change_records.specs.Forms.{paths_text, with_lines}
use Rattle.review_sql_change_records.proofs.paths.paths_text.Given as goal

abbrev pub invariant-loop-path : goal.invariant-loop-path
invariant-loop-path l = with_lines (string_bytes l.text) (drop l.path-index l.paths) ≡ paths_text l.paths
