use Rattle.std.proofs.Common.{◌≡◌, ◌≤◌, List, Bool, true, false}
use Rattle.{sqlite.specs.Files.over_files, sqlite_wal.specs.Files.image_at}
use Rattle.review_desk_work.specs.Faults.{ClosedAs, OpenedFrom}
use Rattle.review_desk_work.specs.Worked.{Turn, AreTurns, BeginsBehind, row_behind, known}
use Rattle.review_desk.proofs.serving.serve_on.Given as goal

-- turns were made, and another one can begin
abbrev pub invariant-loop-rest : goal.invariant-loop-rest
invariant-loop-rest g l =
    (turns : List (Turn _)) × (is_anew : Bool)
    × AreTurns over_files l.fn.first (OpenedFrom (image_at g.F.Start)) ClosedAs l.fn.count (known g.R.Read.remaining g.W.Write.contents g.C.Connections.coming g.C.Connections.told g.N.Notices.is_warned l.fn.ends) turns
    × BeginsBehind over_files l.fn.first (OpenedFrom (image_at g.F.Start)) ClosedAs l.fn.count (known g.R.Read.remaining g.W.Write.contents g.C.Connections.coming g.C.Connections.told g.N.Notices.is_warned l.fn.ends) turns is_anew l.left
    (known g.R.Read.remaining g.W.Write.contents g.C.Connections.coming g.C.Connections.told g.N.Notices.is_warned l.ends) l.conn
    × (row_behind turns is_anew l.left ≡ l.in_row) × (l.in_row ≤ 8) × (l.left ≤ l.fn.count) × (l.conn.in_transaction ≡ false) × (g.C.Connections.is_idle l.ends.connections ≡ true)

abbrev pub decreases-loop-rest : goal.decreases-loop-rest
decreases-loop-rest g l = l.left
