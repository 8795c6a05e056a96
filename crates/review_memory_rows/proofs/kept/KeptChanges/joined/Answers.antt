use Rattle.std.proofs.Common.{◌≡◌, ◌∙◌, ap, map, [], arith, subst, sym}
use Rattle.{std.proofs.lemmas.Grind.common_steps, std.specs.Map.Iter.deref_pair, review_table.proofs.Lasts.between}
use Rattle.{review_table.specs.Rows.row_in, review_table.specs.Rows.rows_of, review_machine_rows.specs.Known.HaveJoined}
use Rattle.review_memory_rows.proofs.Joined.{joined_done, joined_first, joined_more, AreJoinedSoFar}
use Rattle.review_memory_rows.specs.Kept.{place_cmp, row_of, KeptView}
use Rattle.review_memory_rows.proofs.kept.KeptChanges.joined.Goals as goal

pub loop-key-init : goal.loop-key-init
loop-key-init c =
    let key = c.args.branch.now in
    let items = map deref_pair c.into_iter-key-iterator.result.rest.items in
    let placed = rows_of c.self.inside.placed in
    let is = ap (λ xs. map deref_pair xs) c.into_iter-key-iterator.ensures.into_iter_gives.0 ∙ c.in_ok-items.ensures.rows ∙ (λ i. between place_cmp (c.in_ok-from.ensures i) (c.in_ok-to.ensures i) placed) in
    subst (λ (v : KeptView). AreJoinedSoFar (row_of (rows_of v.kept)) key items c.new-joined.result.items) c.self.view_is
    (subst (AreJoinedSoFar (row_of (rows_of c.self.inside.kept)) key items) (sym c.new-joined.ensures.items)
    (joined_first (rows_of c.self.inside.kept) placed c.self.invariant.by_place key items is c.once.ensures.sorted))

pub loop-key-preserved : goal.loop-key-preserved
loop-key-preserved c =
    joined_more (row_of (rows_of c.args.self.now.kept)) c.args.branch.now c.in-Some.key.now (map deref_pair c.loop-key.key-iterator.rest.items) (map deref_pair c.next.new.self.rest.items) c.loop-key.joined.items c.add_joined.new.joined.items
    (ap (λ xs. map deref_pair xs) c.in-Some.ensures.steps.0) c.loop-key.invariant c.in_ok-add_joined.ensures

pub returns : goal.returns
returns c =
    let steps = c.in-None.ensures.steps in
    let empty : c.loop-key.key-iterator.rest.items ≡ [] = grind (arith, common_steps) in
    let row = row_of (rows_of c.args.self.now.kept) in
    subst (HaveJoined row c.args.branch.now) (sym c.from_vec.ensures)
    (joined_done row c.args.branch.now (map deref_pair c.loop-key.key-iterator.rest.items) c.loop-key.joined.items (λ q. ap (λ xs. row_in place_cmp (map deref_pair xs) q) empty) c.loop-key.invariant)
