use Rattle.std.proofs.Common.{◌≡◌, ◌∙◌, ◌==◌, ◌&&◌, Some, true, cond, sym, ap, eq-eqb, rules, to_z, of_z, w8, bytes_eq}
use Rattle.review_core_standing.{proofs.Made.both_tests, specs.inner.Made.vote_at}
use Rattle.review_core_standing.proofs.facts.put_vote.Goals as goal

pub returns-clause-vote : goal.returns-clause-vote
returns-clause-vote c = λ l u.
    let key = c.args.key.now in
    let old = vote_at c.args.votes.now l u in
    let value : to_z w8 (of_z w8 c.get-value.result) ≡ c.get-value.result = search rules in
    let here : (key.patch == c.args.current) ≡ true = eq-eqb key.patch c.args.current (sym c.get.ensures.value ∙ c.if-get-current.false) in
    c.in_ok-add_vote.ensures.vote l u
    ∙ ((λ i. cond (bytes_eq (c.in_ok-label.ensures i) l) (cond (key.account == u) (Some ((value ∙ c.get-value.ensures.value) i)) old) old)
    ∙ (both_tests (bytes_eq key.label l) (key.account == u) (Some c.args.vote) old
    ∙ sym (ap (λ b. cond (b && (bytes_eq key.label l && (key.account == u))) (Some c.args.vote) old) here)))
