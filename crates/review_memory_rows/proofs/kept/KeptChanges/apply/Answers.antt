use Rattle.std.proofs.Common.{◌≡◌, ◌∙◌, ℕ, ap, subst, sym, nat_cmp, flat_map}
use Rattle.review_table.specs.Rows.{after_row_edit, rows_of, row_in, changed}
use Rattle.{review_core_rules.specs.Parts.Part, review_machine_rows.specs.Rows.edited}
use Rattle.review_memory_rows.proofs.Joined.{placed_after, by_puts as places_put}
use Rattle.review_memory_rows.proofs.Sent.{all_put, listed_after, by_puts}
use Rattle.review_memory_rows.specs.Kept.{made, part_at, part_where, place_cmp, placed_in, renewed_at, sent_by, sent_cmp, AreNumbered, ArePlaceKeys, ArePrepared, KeptView, HasRoomFor, IsFullBut}
use Rattle.review_memory_rows.proofs.kept.KeptChanges.apply.Goals as goal

pub invariant_of-self : goal.invariant_of-self
invariant_of-self c =
    let p = c.args.prepared in
    let edits = c.requires.ready.0 in
    let kept = rows_of c.self.inside.kept in
    let ready = subst (λ (v : KeptView). ArePrepared (rows_of v.kept) edits p) (sym c.self.view_is) c.requires.ready.1 in
    let sent = rows_of c.self.inside.sent in
    let placed = rows_of c.self.inside.placed in
    let room = subst (HasRoomFor p) (sym c.self.view_is) c.requires.room in
    let new = rows_of c.renew_all.new.kept in
    let after : (n : ℕ) (part : Part) → part_at new n part ≡ after_row_edit (edited edits n part) (part_at kept n part) = λ n part. ap (λ o. part_where o part) (c.renew_all.ensures.rows n ∙ ap (renewed_at p.renewed.items n) (c.apply.ensures.all room.begun n)) ∙ ready.tables n part in
    record {
      by_commit = listed_after edits sent (rows_of c.apply-2.new.self) kept new c.self.invariant.by_commit
          (subst AreNumbered ready.keys ready.numbered)
          (λ q. c.apply-2.ensures.all room.keys q ∙ ap (λ cs. changed sent_cmp cs q (row_in sent_cmp sent q)) ready.keys) after;
      by_place = placed_after edits placed (rows_of c.apply-3.new.self) kept new c.self.invariant.by_place
          (subst ArePlaceKeys ready.places ready.fit)
          (λ q. c.apply-3.ensures.all room.places q ∙ ap (λ cs. changed place_cmp cs q (row_in place_cmp placed q)) ready.places) after;
    }

pub returns-clause-done : goal.returns-clause-done
returns-clause-done c = λ n.
    let p = c.args.prepared in
    let room = subst (HasRoomFor p) (sym c.self.view_is) c.requires.room in
    c.renew_all.ensures.rows n ∙ ap (renewed_at p.renewed.items n) (c.apply.ensures.all room.begun n) ∙ ap (λ (v : KeptView). made p n (row_in nat_cmp (rows_of v.kept) n)) c.self.view_is

pub returns-clause-full : goal.returns-clause-full
returns-clause-full c = λ spare.
    let edits = c.requires.ready.0 in
    let ready = c.requires.ready.1 in
    let only = subst (IsFullBut c.args.prepared) (sym c.self.view_is) spare in
    record {
      kept = c.renew_all.ensures.full (c.apply.ensures.mended ready.begun only.kept);
      sent = c.apply-2.ensures.mended (all_put c.args.prepared.keys.items (sent_by edits) (by_puts edits) ready.keys) only.sent;
      placed = c.apply-3.ensures.mended (all_put c.args.prepared.places.items (flat_map placed_in edits) (places_put edits) ready.places) only.placed;
    }
