use Rattle.std.proofs.Common.{◌≡◌, ◌∙◌, Some, ap, sym, inl, subst, arith, OnOk, OnErr}
use Rattle.review_machine_rows.specs.{Rows.kept_row, Shelf.IsCommitted, Shelf.LeavesUndone}
use Rattle.review_memory.proofs.{Applied.made_stops, First.view_length}
use Rattle.review_memory.proofs.memory.MemoryShelfShelf.commit.Goals.{in-Ok, in-Err}
use Rattle.review_memory.specs.Desk.{Desk, tables_of, desk_of}
use Rattle.review_memory.proofs.memory.MemoryShelfShelf.commit.Goals as goal

pub returns-then-self-clause-damaged : goal.returns-then-self-clause-damaged
returns-then-self-clause-damaged c = λ _ h hist v.
    let long = view_length h (tables_of c.args.self.now) hist v in
    let length = ap (λ (d : Desk). d.requests) c.self.view_is in
    let greatest = c.if-self.true in
    absurd (omega arith)

pub returns-then-self-clause-stops : goal.returns-then-self-clause-stops
returns-then-self-clause-stops c = λ _ t is. inl is

pub returns-clause-stops : goal.returns-clause-stops
returns-clause-stops c = λ _ t is.
    made_stops c.args.delta c.args.kept c.commit.result c.args.self.now (desk_of c.commit.new.self) t
    (subst (λ d. OnOk c.commit.result (IsCommitted (tables_of d) c.args.delta (kept_row c.args.kept) (tables_of (desk_of c.commit.new.self)))) c.self.view_is c.commit.ensures.done)
    (subst (λ d. OnErr c.commit.result (tables_of (desk_of c.commit.new.self) ≡ tables_of d)) c.self.view_is c.commit.ensures.same) is

pub returns-clause-undone : goal.returns-clause-undone
returns-clause-undone c = λ _. elim c.match-commit.branch [
  | in-Ok w ↦ subst (λ r. LeavesUndone r (Some (tables_of c.args.self.now)) (Some (tables_of (desk_of c.commit.new.self)))) (sym w.result-is) tt
  | in-Err w ↦ subst (λ r. LeavesUndone r (Some (tables_of c.args.self.now)) (Some (tables_of (desk_of c.commit.new.self)))) (sym w.result-is)
      (ap Some (subst (λ r. OnErr r (tables_of (desk_of c.commit.new.self) ≡ tables_of (desk_of c.self.inside.tables))) w.in-Err.is c.commit.ensures.same ∙ ap tables_of c.self.view_is))
]
