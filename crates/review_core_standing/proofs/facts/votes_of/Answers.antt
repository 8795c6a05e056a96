use Rattle.std.proofs.Common.{◌≡◌, ℕ, List, subst, ◌+◌, ◌∙◌, ◌∷◌, Some, None, cond, sym, ap, drop, map}
use Rattle.std.{proofs.lemmas.List.at_drop_more, specs.BTreeMap.get, specs.BTreeMap.is_at}
use Rattle.std.specs.{Cmp.Lexicographic.slice_cmp, List.filter, List.Sorted.IsStrictlySortedBy, Map.keys_of, Map.lookup}
use Rattle.{std.specs.Map.Iter.deref_pair, std.specs.Ordering.nat_cmp, review_table.specs.Rows.row_in}
use Rattle.{review_expr_judging.specs.Holds.votes_on, review_core_rules.specs.Seen.vote_cmp}
use Rattle.review_core_tables.{proofs.Copied.vote_key, proofs.Copied.vote_tied, specs.Tables.put_in}
use Rattle.review_core_standing.{proofs.Made.voted_more, specs.inner.Made.is_voted, specs.inner.Made.vote_at}
use Rattle.review_core_standing.proofs.facts.votes_of.Goals as goal

nothing : IsStrictlySortedBy nat_cmp (keys_of (votes_on None))
unfolding IsStrictlySortedBy
nothing = tt

pub loop-key-init : goal.loop-key-init
loop-key-init c =
    let rows = filter is_voted (map deref_pair c.args.rows.now) in
    let none : (l : List ℕ) → get (slice_cmp nat_cmp) c.new-votes.result l ≡ None = λ l. ap (lookup (is_at (slice_cmp nat_cmp l))) c.new-votes.ensures.empty in
    record {
      votes = λ name a. ap (λ o. put_in vote_cmp rows (vote_key c.args.current name a) (row_in nat_cmp (votes_on o) a)) (none name);
      ordered = λ l. subst (λ o. IsStrictlySortedBy nat_cmp (keys_of (votes_on o))) (sym (none l)) nothing;
    }

pub loop-key-preserved : goal.loop-key-preserved
loop-key-preserved c =
    let rows = c.args.rows.now in
    let index = c.loop-key.key-index in
    let e = c.loop-key-item.result in
    let rest = map deref_pair (drop (index + 1) rows) in
    record {
      votes = λ name a.
          let q = vote_key c.args.current name a in
          let before = vote_at c.loop-key.votes name a in
          ap (put_in vote_cmp (filter is_voted rest) q) (c.in_ok-put_vote.ensures.vote name a ∙ ap (λ b. cond b (Some (deref_pair e).1) before) (sym (vote_tied (deref_pair e).0 c.args.current name a)))
          ∙ (sym (at_drop_more (λ xs. put_in vote_cmp (filter is_voted (map deref_pair xs)) q before) rows index e c.loop-key-test.true
          ∙ (ap (λ x. put_in vote_cmp (filter is_voted (deref_pair x ∷ rest)) q before) (sym c.loop-key-item.is)
          ∙ voted_more (deref_pair e) rest q before c.in_ok-put_vote.ensures.voted))
          ∙ c.loop-key.invariant.votes name a);
      ordered = c.in_ok-put_vote.ensures.ordered c.loop-key.invariant.ordered;
    }
