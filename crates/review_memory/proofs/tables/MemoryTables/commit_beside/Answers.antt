use Rattle.std.proofs.Common.{◌≡◌, ◌⊎◌, ◌∙◌, ap, Some, subst, sym, ⊎_elim}
use Rattle.std.{proofs.lemmas.List.Elements.All-contains, specs.List.All, specs.List.Contains}
use Rattle.review_machine_rows.proofs.Common.{IsCommitted, changed, kept_row, nat_cmp, row_in, rows_of}
use Rattle.review_memory.proofs.Applied.{applied_bounded, applied_indexed, applied_numbered, committed, made_held, same_changes}
use Rattle.review_memory.proofs.Lower.{on_err}
use Rattle.review_memory.specs.Desk.{Desk, desk_of, tables_of, beside_epoch, name_cmp, AreChangesOf, AreInUse, AreIndexed, HasChanged, IsBounded, IsGiven, IsHeld, IsIndexed, IsNameOf, IsNumbered, IsUsed}
use Rattle.review_memory.proofs.tables.MemoryTables.commit_beside.Goals as goal

pub make-requires-clause-ready : goal.make-requires-clause-ready
make-requires-clause-ready c = (c.args.delta.changes.items, c.in-Ok-new.ensures.edits)

pub drop_given-requires : goal.drop_given-requires
drop_given-requires c =
    let made = c.make.new.self in
    let given = c.in-Ok.names.given.items in
    subst (λ names. IsIndexed (rows_of c.release_removed.new.self.accounts) (rows_of names)) (sym c.release_removed.ensures.names)
    (subst (λ (d : Desk). IsIndexed d.accounts (rows_of made.names)) (sym c.release_removed.ensures.same)
    (applied_indexed c.args.delta c.in-Ok-new.changes given c.projects_with-projects.result c.args.self.now made
    (same_changes c.args.delta.file c.in-Ok-new.changes c.deref-2.ensures.value c.deref-3.ensures.value c.in-Ok-new.ensures.copied)
    (subst (All (IsGiven given)) c.deref.ensures.value c.in-Ok.ensures.all) (subst (AreIndexed (rows_of made.names)) c.deref-4.ensures.value c.in-Ok-make.ensures.listed)
    c.in-Ok-make.ensures.kept c.in-Ok-make.ensures.done c.requires.sound.indexed))

pub returns-in-Ok-make-clause-sound : goal.returns-in-Ok-make-clause-sound
returns-in-Ok-make-clause-sound c =
    let copied : AreChangesOf c.args.delta c.in-Ok-new.changes =
    same_changes c.args.delta.file c.in-Ok-new.changes c.deref-2.ensures.value c.deref-3.ensures.value c.in-Ok-new.ensures.copied in
    let same_desk : desk_of c.drop_names.new.self ≡ desk_of c.make.new.self =
    c.drop_names.ensures.same ∙ c.drop_given.ensures.same ∙ c.release_removed.ensures.same in
    let has_changed : HasChanged c.args.delta.accounts.items (rows_of c.release_removed.new.self.accounts) =
    λ n.
    let was = row_in nat_cmp (rows_of c.args.self.now.accounts) n in (
      was,
      ap (λ (d : Desk). row_in nat_cmp d.accounts n) c.release_removed.ensures.same
          ∙ (c.in-Ok-make.ensures.done.accounts n ∙ ap (λ cs. changed nat_cmp cs n was) copied.accounts),
    ) in
    let used : All (IsUsed (rows_of c.drop_given.new.self.accounts) (rows_of c.drop_given.new.self.names)) c.in-Ok.names.given.items =
    let only = subst (λ cs. All (IsNameOf cs) c.in-Ok.names.given.items) c.deref.ensures.value c.in-Ok.ensures.only in
    subst (All (IsUsed (rows_of c.drop_given.new.self.accounts) (rows_of c.drop_given.new.self.names))) c.deref-in-Ok-make-4.ensures.value
    (c.drop_given.ensures.dropped
    (subst (λ cs. All (IsNameOf cs) c.deref-in-Ok-make-4.result.now) (sym c.deref-in-Ok-make-3.ensures.value) (subst (All (IsNameOf c.args.delta.accounts.items)) (sym c.deref-in-Ok-make-4.ensures.value) only))
    (subst (λ cs. HasChanged cs (rows_of c.release_removed.new.self.accounts)) (sym c.deref-in-Ok-make-3.ensures.value) has_changed)) in
    let in_use : AreInUse (rows_of c.drop_names.new.self.accounts) (rows_of c.drop_names.new.self.names) =
    λ k there.
    let last = c.drop_names.new.self in
    let mid = c.drop_given.new.self in
    let held = c.in-Ok.names.held.items in
    let first = c.drop_names.ensures.no_more k there in
    let listed = subst (λ names. row_in name_cmp (rows_of names) k ≡ Some tt) c.release_removed.ensures.names (c.drop_given.ensures.no_more k first) in ⊎_elim
    (λ old. ⊎_elim
    (λ still. ap (λ (d : Desk). row_in nat_cmp d.accounts k.account) same_desk ∙ still)
    (λ had. All-contains (IsUsed (rows_of last.accounts) (rows_of last.names)) held k
    (subst (All (IsUsed (rows_of last.accounts) (rows_of last.names))) c.deref-in-Ok-make-5.ensures.value c.drop_names.ensures.dropped) had there)
    (made_held c.args.delta c.in-Ok-new.changes held c.projects_with-projects.result c.args.self.now c.make.new.self copied
    (subst (All (IsHeld (rows_of c.args.self.now.accounts) held)) c.deref.ensures.value c.in-Ok.ensures.held) c.in-Ok-make.ensures.done c.requires.sound.in_use k old))
    (λ got. ap (λ (d : Desk). row_in nat_cmp d.accounts k.account) c.drop_names.ensures.same
    ∙ All-contains (IsUsed (rows_of mid.accounts) (rows_of mid.names)) c.in-Ok.names.given.items k used got first)
    (subst (λ keys. (row_in name_cmp (rows_of c.args.self.now.names) k ≡ Some tt) ⊎ Contains keys k) c.deref-4.ensures.value (c.in-Ok-make.ensures.only k listed)) in
    record {
      indexed = c.drop_names.ensures.indexed;
      in_use = in_use;
      filled = c.drop_names.ensures.filled (c.drop_given.ensures.filled (c.release_removed.ensures.filled c.args.delta.file c.in-Ok-new.changes
          (same_changes c.args.delta.file c.in-Ok-new.changes (sym c.deref-in-Ok-make.ensures.value) (sym c.deref-in-Ok-make-2.ensures.value) copied) c.in-Ok-make.ensures.spare));
      numbered = subst (λ (d : Desk). IsNumbered d.members) (sym same_desk)
          (applied_numbered c.args.delta c.in-Ok-new.changes c.projects_with-projects.result (desk_of c.args.self.now) (desk_of c.make.new.self) copied c.in-Ok-make.ensures.done c.requires.sound.numbered);
      bounded = subst IsBounded (sym same_desk)
          (applied_bounded c.args.delta c.in-Ok-new.changes c.projects_with-projects.result (desk_of c.args.self.now) (desk_of c.make.new.self) c.in-Ok-make.ensures.done c.in-Ok-make.ensures.based c.projects_with-projects.ensures
          c.requires.sound.bounded);
    }

pub returns-in-Ok-make-clause-done : goal.returns-in-Ok-make-clause-done
returns-in-Ok-make-clause-done c =
    let copied : AreChangesOf c.args.delta c.in-Ok-new.changes =
    same_changes c.args.delta.file c.in-Ok-new.changes c.deref-2.ensures.value c.deref-3.ensures.value c.in-Ok-new.ensures.copied in
    let same_desk : desk_of c.drop_names.new.self ≡ desk_of c.make.new.self =
    c.drop_names.ensures.same ∙ c.drop_given.ensures.same ∙ c.release_removed.ensures.same in
    subst (λ d. IsCommitted (tables_of (desk_of c.args.self.now)) (beside_epoch c.args.delta) (kept_row c.args.kept) (tables_of d)) (sym same_desk)
    (committed c.args.delta c.args.kept c.in-Ok-new.changes c.projects_with-projects.result c.stored-answer.result (desk_of c.args.self.now) (desk_of c.make.new.self)
    copied c.in-Ok-new.ensures.edits c.stored-answer.ensures c.in-Ok-make.ensures.done c.in-Ok-make.ensures.based c.in-Ok-make.ensures.stored c.projects_with-projects.ensures)
