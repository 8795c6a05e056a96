use Rattle.std.proofs.Common.{◌≡◌, ◌∙◌, ◌++◌, ◌&&◌, ap, sym, map, append-nil, arith}
use Rattle.std.{proofs.lemmas.List.at_drop_all, specs.BTreeMap.is_at, specs.List.filter, specs.List.list_any}
use Rattle.review_core_rules.specs.{Seen.vote_cmp, declared.rows.VoteKey.VoteKey}
use Rattle.review_core_tables.{proofs.Copied.any_kept, proofs.Copied.votes_tell, specs.inner.Words.is_of}
use Rattle.review_core_tables.proofs.votes.keys_of.Goals as goal

-- whether a key is among those that are kept
among : (c : goal.After-drop-all-2) (q : VoteKey) → list_any (is_at (vote_cmp q)) c.loop-key.keys.items ≡ (is_of c.args.patch c.args.account q && list_any (is_at (vote_cmp q)) (map (λ k. k.now) c.in_ok-all.all.items))
among c q =
    let keys = c.loop-key.keys.items in
    let items = c.deref-key-items.result.now in
    let kept = filter (is_of c.args.patch c.args.account) in
    let whole : keys ≡ kept (map (λ k. k.now) items) =
    sym (append-nil keys) ∙ (sym (at_drop_all (λ xs. keys ++ kept (map (λ k. k.now) xs)) items c.loop-key.key-index (omega arith)) ∙ c.loop-key.invariant) in
    ap (list_any (is_at (vote_cmp q))) (whole ∙ ap (λ xs. kept (map (λ k. k.now) xs)) c.deref-key-items.ensures.value) ∙ any_kept votes_tell (is_of c.args.patch c.args.account) q (map (λ k. k.now) c.in_ok-all.all.items)

pub returns-clause-all : goal.returns-clause-all
returns-clause-all c = λ q of some. among c q ∙ (λ i. of i && c.in_ok-all.ensures q some i)

pub returns-clause-only : goal.returns-clause-only
returns-clause-only c = λ q not. among c q ∙ ap (λ b. b && list_any (is_at (vote_cmp q)) (map (λ k. k.now) c.in_ok-all.all.items)) not
