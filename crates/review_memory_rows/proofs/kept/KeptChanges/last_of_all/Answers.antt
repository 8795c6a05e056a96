use Rattle.std.proofs.Common.{◌≡◌, ◌∙◌, ap, cond, None, map, [], arith, subst, sym, refl, inl, inr}
use Rattle.review_machine_rows.proofs.Common.{Included, IsAtPlace, common_steps, deref_pair, range_contains, row_in, rows_of}
use Rattle.review_memory_rows.proofs.Joined.{key_at, last_done, last_more, place_between, place_listed}
use Rattle.review_memory_rows.specs.Kept.{place_cmp, row_of, KeptView}
use Rattle.review_memory_rows.proofs.kept.KeptChanges.last_of_all.Goals as goal

pub loop-key-init : goal.loop-key-init
loop-key-init c = record {
  left = λ place n low s. inr
      (let key = c.args.branch.now in
      let q = key_at key place n in
      let all = row_in place_cmp (rows_of c.self.inside.placed) q in
      let at = subst (λ (v : KeptView). IsAtPlace (row_of (rows_of v.kept)) key place n) (sym c.self.view_is) s in
      let there = place_listed (rows_of c.self.inside.kept) (rows_of c.self.inside.placed) c.self.invariant.by_place key place n low at in
      ap (λ xs. row_in place_cmp (map deref_pair xs) q) c.into_iter-key-iterator.ensures.into_iter_gives.0
      ∙ c.in_ok-items.ensures.found q
      ∙ (λ i. cond (range_contains place_cmp (Included (c.in_ok-from.ensures i)) (Included (c.in_ok-to.ensures i)) q) all None)
      ∙ ap (λ b. cond b all None) (place_between key place n (c.self.invariant.by_place.fits q there))
      ∙ there);
  there = inl refl;
}

pub loop-key-preserved : goal.loop-key-preserved
loop-key-preserved c =
    last_more (rows_of c.args.self.now.kept) c.args.branch.now c.in-Some.key.now (map deref_pair c.next.new.self.rest.items) (map deref_pair c.loop-key.key-iterator.rest.items) c.loop-key.last c.later_place-last.result
    (ap (λ xs. map deref_pair xs) c.in-Some.ensures.steps.0) c.loop-key.invariant c.later_place-last.ensures

pub returns : goal.returns
returns c =
    let steps = c.in-None.ensures.steps in
    let empty : c.loop-key.key-iterator.rest.items ≡ [] = grind (arith, common_steps) in
    last_done (rows_of c.args.self.now.kept) c.args.branch.now (map deref_pair c.loop-key.key-iterator.rest.items) c.loop-key.last (λ q. ap (λ xs. row_in place_cmp (map deref_pair xs) q) empty) c.loop-key.invariant
