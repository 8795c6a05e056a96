use Rattle.std.proofs.Common.{◌≡◌, ◌<◌, ◌^◌, ◌-◌, ◌∙◌, Some, sym, subst}
use Rattle.{review_table.specs.Rows.row_in, review_table.specs.Rows.rows_of, review_memory_rows.specs.Kept.IsReady}
use Rattle.review_memory.proofs.Applied.{applied_from, listed_still, unmade_sound}
use Rattle.review_memory.specs.Desk.{Desk, desk_of, name_cmp, IsIndexed}
use Rattle.review_memory.proofs.tables.MemoryTables.make.Goals as goal

pub apply-requires-clause-number : goal.apply-requires-clause-number
apply-requires-clause-number c = subst (λ (d : Desk). d.requests < 2 ^ 64 - 1) (sym c.begin.ensures.rest) c.requires.number

pub apply-requires-clause-ready : goal.apply-requires-clause-ready
apply-requires-clause-ready c = subst (λ (d : Desk). IsReady d.changes c.args.changes.edits) (sym c.begin.ensures.rest) c.requires.ready

pub drop_names-requires : goal.drop_names-requires
drop_names-requires c =
    subst (λ names. IsIndexed (rows_of c.release.new.self.accounts) (rows_of names)) (sym c.release.ensures.names)
    (subst (λ (d : Desk). IsIndexed d.accounts (rows_of c.begin.new.self.names)) (sym c.release.ensures.same)
    (listed_still c.args.self.now c.begin.new.self c.in-Err.ensures.same c.begin.ensures.kept c.requires.sound.indexed))

pub returns-in-Ok-clause-done : goal.returns-in-Ok-clause-done
returns-in-Ok-clause-done c =
    let begun = c.begin.new.self in
    applied_from (desk_of c.args.self.now) (desk_of begun) begun.branches (rows_of begun.answers) c.args.changes c.args.projects (desk_of c.apply.new.self) c.begin.ensures.rest c.apply.ensures.done

pub returns-in-Err-clause-undone : goal.returns-in-Err-clause-undone
returns-in-Err-clause-undone c =
    unmade_sound c.args.given.now c.args.self.now c.begin.new.self c.drop_names.new.self c.requires.sound (c.drop_names.ensures.same ∙ c.release.ensures.same ∙ c.in-Err.ensures.same) c.begin.ensures.only
    (λ k there. subst (λ names. row_in name_cmp (rows_of names) k ≡ Some tt) c.release.ensures.names (c.drop_names.ensures.no_more k there)) c.drop_names.ensures.dropped c.drop_names.ensures.indexed
    (c.drop_names.ensures.filled (c.release.ensures.filled (c.begin.ensures.spare c.requires.sound.filled)))
