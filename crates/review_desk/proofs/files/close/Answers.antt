use Rattle.review_desk.proofs.files.close.Goals as goal

pub returns-in-Ok : goal.returns-in-Ok
returns-in-Ok g c = let it = c.in-Ok.ensures.ok in (it.0, _, it.1, it.2, it.3, c.in-Ok.ensures.copied)

pub returns : goal.returns
returns g c = ((c.in-Err.store, c.in-Err.ensures.err.0), c.of_store.ensures)
