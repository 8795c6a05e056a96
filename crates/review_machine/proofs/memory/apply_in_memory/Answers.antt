use Rattle.{std.proofs.Common.inr, review_memory.specs.Desk.tables_of, review_machine.proofs.Nothing.from_nothing}
use Rattle.review_machine.proofs.memory.apply_in_memory.Goals as goal

pub returns : goal.returns
returns g c = record { how = inr (from_nothing _ _ _ _ (tables_of c.in_ok-shelf.shelf) (tables_of c.apply_lines-told.new.shelf) c.in_ok-shelf.ensures.view c.apply_lines-told.ensures) }
