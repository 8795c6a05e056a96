use Rattle.std.proofs.Common.{◌≡◌, List, length, true}
use Rattle.review_machine_deliveries.specs.Delivered.{WasRun}
use Rattle.review_http.proofs.Connected.{Taken, asked, replies, inputs_of, texts_of}
use Rattle.review_http.specs.Peers.{Exchange, Came, WereTold, ServedEach}
use Rattle.review_http.proofs.connections.serve_connections.Given as goal

-- the connections so far were served and closed, and what was taken of them was a run
abbrev pub invariant-loop-served : goal.invariant-loop-served
invariant-loop-served g l =
    ((exchanges : List Exchange) × (taken : Taken)
    × Came (g.C.Connections.coming l.fn.connections) (inputs_of exchanges) (g.C.Connections.coming l.connections)
    × WereTold (g.C.Connections.told l.fn.connections) (texts_of exchanges) (g.C.Connections.told l.connections)
    × (length exchanges ≡ l.served)
    × ServedEach g.S.Shelf.state (g.S.Shelf.state l.fn.shelf).faults exchanges taken l.fn.shelf l.shelf
    × WasRun (asked taken) (replies taken) (g.S.Shelf.state l.fn.shelf) (g.S.Shelf.state l.shelf))
    × (g.C.Connections.is_idle l.connections ≡ true)
