use Rattle.std.{proofs.Common.◌≡◌, specs.Option.option_copied}
use Rattle.review_machine_rows.specs.{Known.StaysKnown, Shelf.AddsNoStop, Steps.HasComeTo, Steps.left, Steps.topic_of}
use Rattle.review_machine_deliveries.specs.Gathered.{IsSoFar}
use Rattle.review_machine_deliveries.proofs.gathering.gather_from.Given as goal

-- what is known so far is so, and the tables are as they were
abbrev pub invariant-loop-need : goal.invariant-loop-need
invariant-loop-need g l = record {
  honest : (g.S.Shelf.state l.shelf).is_honest → (g.S.Shelf.state l.fn.shelf).is_honest;
  found : (g.S.Shelf.state l.shelf).is_honest → IsSoFar (g.S.Shelf.state l.fn.shelf).tables l.fn.rows → IsSoFar (g.S.Shelf.state l.fn.shelf).tables l.rows;
  stays : StaysKnown l.fn.rows l.rows;
  tables : (g.S.Shelf.state l.shelf).is_honest → (g.S.Shelf.state l.shelf).tables ≡ (g.S.Shelf.state l.fn.shelf).tables;
  stops : (g.S.Shelf.state l.shelf).is_honest → AddsNoStop (g.S.Shelf.state l.fn.shelf) (g.S.Shelf.state l.shelf);
  come : HasComeTo (option_copied l.effective) l.rows l.caller (topic_of l.matter) l.come;
  counted : (g.S.Shelf.state l.shelf).faults ≡ (g.S.Shelf.state l.fn.shelf).faults;
}

abbrev pub decreases-loop-need : goal.decreases-loop-need
decreases-loop-need g l = left (option_copied l.effective) l.rows l.caller (topic_of l.matter)
