use Rattle.std.proofs.Common.{◌≡◌, ◌∙◌, [], ap, arith, nat_cmp, subst}
use Rattle.std.{proofs.lemmas.Grind.common_steps, specs.Prelude.flat_map}
use Rattle.review_table.specs.Rows.{row_in, rows_of}
use Rattle.review_memory_rows.proofs.Turned.{prepared_end, prepared_first, prepared_more}
use Rattle.review_memory_rows.specs.Kept.{IsPrepared, KeptView, placed_in, sent_by}
use Rattle.review_memory_rows.proofs.kept.KeptChanges.prepare.Goals as goal

pub loop-edit-init : goal.loop-edit-init
loop-edit-init c =
    prepared_first (rows_of c.args.self.now.kept) c.args.edits.items c.into_iter-edit-iterator.result.rest.items c.new-begun.result.items c.in_ok-renewed.renewed.items c.into_iter-edit-iterator.ensures.into_iter_gives.0
    c.new-begun.ensures.items c.in_ok-renewed.ensures.items

pub loop-edit-preserved : goal.loop-edit-preserved
loop-edit-preserved c =
    let e = c.in-Some.edit in
    let loop = c.loop-edit in
    prepared_more (rows_of c.args.self.now.kept) c.args.edits.items loop.edit-iterator.rest.items c.next.new.self.rest.items e loop.begun.items c.prepare.new.begun.items loop.renewed.items c.prepare.new.renewed.items
    c.in-Some.ensures.steps.0
    (subst (λ (v : KeptView). IsPrepared (row_in nat_cmp (rows_of v.kept) e.change) e loop.begun.items c.prepare.new.begun.items loop.renewed.items c.prepare.new.renewed.items) c.self.view_is c.in_ok-prepare.ensures) loop.invariant

pub returns : goal.returns
returns c =
    let loop = c.loop-edit in
    let steps = c.in-None.ensures.steps in
    let none : loop.edit-iterator.rest.items ≡ [] = grind (arith, common_steps) in
    record {
      tables = prepared_end (rows_of c.args.self.now.kept) c.args.edits.items loop.edit-iterator.rest.items (record { begun = loop.begun; renewed = loop.renewed; keys = c.in_ok-keys.keys; places = c.in_ok-places.places })
          none loop.invariant;
      begun = loop.invariant.some;
      keys = c.in_ok-keys.ensures.items ∙ ap sent_by c.deref.ensures.value;
      numbered = c.in_ok-keys.ensures.numbered;
      places = c.in_ok-places.ensures.items ∙ ap (flat_map placed_in) c.deref-2.ensures.value;
      fit = c.in_ok-places.ensures.fit;
    }
