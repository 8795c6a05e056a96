use Rattle.std.proofs.Common.{◌≡◌, ◌∙◌, ap, cond, Option, Some, None, map, not, ◌&&◌, [], arith}
use Rattle.std.{proofs.lemmas.Grind.common_steps, specs.Map.Iter.deref_pair, specs.Ordering.is_le, specs.Ordering.is_lt}
use Rattle.{review_table.specs.Rows.row_in, review_table.specs.Rows.rows_of, review_machine_rows.specs.Rows.place_cmp}
use Rattle.{review_machine_rows.specs.declared.rows.PlaceKey.PlaceKey, review_memory_rows.proofs.Based.between_places}
use Rattle.review_memory_rows.specs.{Bases.BranchesView, Bases.commit_cmp, declared.keys.CommitKey.CommitKey}
use Rattle.review_memory_rows.proofs.bases.Branches.has.Goals as goal

pub loop-key-init : goal.loop-key-init
loop-key-init c = λ n is.
    let base = c.args.base.now in
    let k : PlaceKey = record { project = base.project; branch = base.branch; place = n } in
    let q : CommitKey = record { project = base.project; branch = base.branch; commit = base.commit; place = n } in
    let all = row_in commit_cmp (rows_of c.self.inside.commits) q in
    let there = ap (λ (v : BranchesView). row_in place_cmp v.bases k) c.self.view_is ∙ is in
    ap (λ xs. row_in commit_cmp (map deref_pair xs) q) c.into_iter-key-iterator.ensures.into_iter_gives.0
    ∙ c.in_ok-items.ensures.found q
    ∙ (λ i. cond (is_le (commit_cmp (c.in_ok-from.ensures i) q) && not (is_lt (commit_cmp (c.in_ok-to.ensures i) q))) all None)
    ∙ ap (λ b. cond b all None) (between_places base.project base.branch base.commit n (c.self.invariant.0.fits k base.commit there))
    ∙ (c.self.invariant.0.listed k base.commit).0 there

nothing : (o : Option (Unit {0})) → o ≡ None → o ≡ Some tt → ⊥
nothing None none there = absurd (cc)
nothing (Some u) none there = absurd (cc)

pub returns : goal.returns
returns c = λ n is.
    let base = c.args.base.now in
    let q : CommitKey = record { project = base.project; branch = base.branch; commit = base.commit; place = n } in
    let s = c.in-None.ensures.steps in
    let empty : c.loop-key.key-iterator.rest.items ≡ [] = grind (arith, common_steps) in
    nothing (row_in commit_cmp (map deref_pair c.loop-key.key-iterator.rest.items) q) (ap (λ xs. row_in commit_cmp (map deref_pair xs) q) empty) (c.loop-key.invariant n is)
