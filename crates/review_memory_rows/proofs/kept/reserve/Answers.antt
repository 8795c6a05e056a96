use Rattle.std.{proofs.Common.subst, specs.Ordering.nat_cmp}
use Rattle.review_table.specs.Rows.{is_named, HavePlaces}
use Rattle.review_memory_rows.proofs.{Based.none_spare, Dropped.only_for}
use Rattle.review_memory_rows.specs.Kept.{place_cmp, sent_cmp}
use Rattle.review_memory_rows.proofs.kept.reserve.Goals as goal

pub returns-in_err-reserve_all-clause-spare : goal.returns-in_err-reserve_all-clause-spare
returns-in_err-reserve_all-clause-spare c = λ full. record {
  kept = only_for nat_cmp c.reserve_all.new.self c.deref.result.now c.args.prepared.now.begun.items c.deref.ensures.value (c.reserve_all.ensures.only full.kept);
  sent = none_spare sent_cmp (is_named sent_cmp c.args.prepared.now.keys.items) c.args.sent.now full.sent;
  placed = none_spare place_cmp (is_named place_cmp c.args.prepared.now.places.items) c.args.placed.now full.placed;
}

pub returns-in_err-reserve_all-2-clause-spare : goal.returns-in_err-reserve_all-2-clause-spare
returns-in_err-reserve_all-2-clause-spare c = λ full. record {
  kept = only_for nat_cmp c.reserve_all.new.self c.deref.result.now c.args.prepared.now.begun.items c.deref.ensures.value (c.reserve_all.ensures.only full.kept);
  sent = only_for sent_cmp c.reserve_all-2.new.self c.deref-2.result.now c.args.prepared.now.keys.items c.deref-2.ensures.value (c.reserve_all-2.ensures.only full.sent);
  placed = none_spare place_cmp (is_named place_cmp c.args.prepared.now.places.items) c.args.placed.now full.placed;
}

pub returns-in_err-reserve_all-3-clause-spare : goal.returns-in_err-reserve_all-3-clause-spare
returns-in_err-reserve_all-3-clause-spare c = λ full. record {
  kept = only_for nat_cmp c.reserve_all.new.self c.deref.result.now c.args.prepared.now.begun.items c.deref.ensures.value (c.reserve_all.ensures.only full.kept);
  sent = only_for sent_cmp c.reserve_all-2.new.self c.deref-2.result.now c.args.prepared.now.keys.items c.deref-2.ensures.value (c.reserve_all-2.ensures.only full.sent);
  placed = only_for place_cmp c.reserve_all-3.new.self c.deref-3.result.now c.args.prepared.now.places.items c.deref-3.ensures.value (c.reserve_all-3.ensures.only full.placed);
}

pub returns-clause-spare : goal.returns-clause-spare
returns-clause-spare c = λ full. record {
  kept = only_for nat_cmp c.reserve_all.new.self c.deref.result.now c.args.prepared.now.begun.items c.deref.ensures.value (c.reserve_all.ensures.only full.kept);
  sent = only_for sent_cmp c.reserve_all-2.new.self c.deref-2.result.now c.args.prepared.now.keys.items c.deref-2.ensures.value (c.reserve_all-2.ensures.only full.sent);
  placed = only_for place_cmp c.reserve_all-3.new.self c.deref-3.result.now c.args.prepared.now.places.items c.deref-3.ensures.value (c.reserve_all-3.ensures.only full.placed);
}

pub returns-clause-room : goal.returns-clause-room
returns-clause-room c = record {
  begun = subst (HavePlaces nat_cmp c.reserve_all.new.self) c.deref.ensures.value c.in_ok-reserve_all.ensures.ok;
  keys = subst (HavePlaces sent_cmp c.reserve_all-2.new.self) c.deref-2.ensures.value c.in_ok-reserve_all-2.ensures.ok;
  places = subst (HavePlaces place_cmp c.reserve_all-3.new.self) c.deref-3.ensures.value c.in_ok-reserve_all-3.ensures.ok;
}
