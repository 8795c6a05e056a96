use Rattle.std.proofs.Common.{◌∙◌, ap, inl, inr}
use Rattle.review_desk_work.specs.Faults.{desk_fault}
use Rattle.review_desk_work.proofs.fault.ProgramFault.of_store.Goals as goal

pub returns : goal.returns
returns c = elim c.of.ensures.kinds [ inl is ↦ inr (c.from.ensures ∙ ap desk_fault is) | inr is ↦ inl (c.from.ensures ∙ ap desk_fault is) ]
