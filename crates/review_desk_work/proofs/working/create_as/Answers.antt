use Rattle.std.proofs.Common.{inl}
use Rattle.review_desk_work.proofs.working.create_as.Goals as goal

pub returns-in-Ok-clause-made : goal.returns-in-Ok-clause-made
returns-in-Ok-clause-made g c = ((c.in-Ok.shelf, c.in-Ok.ensures.created, c.close.ensures.closed), tt)

pub returns-in-Err-clause-made : goal.returns-in-Err-clause-made
returns-in-Err-clause-made g c =
    let e = c.in-Err.ensures in
    (tt, (e.refused, e.spared, (c.in-Err.fault, c.from.ensures, (e.kinds.0, e.kinds.1, λ is. (e.untouched (inl is), e.not_empty is), λ is. (e.ours is, e.not_ours is), e.shut))))
