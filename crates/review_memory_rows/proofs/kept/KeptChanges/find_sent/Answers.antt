use Rattle.std.proofs.Common.{◌≡◌, ◌∙◌, ap, cond, Option, Some, None, map, not, ◌&&◌, [], arith, subst, sym, true, is_le, is_lt, nat_cmp, MatchBool}
use Rattle.review_machine_rows.proofs.Common.{common_steps, deref_pair, row_in, rows_of}
use Rattle.review_memory_rows.proofs.{Dropped.still_left, Sent.sent_of, Sent.between, Sent.listed_is, Sent.exact_sent}
use Rattle.review_memory_rows.specs.Kept.{is_sent, sent_cmp, IsSentAs, KeptView}
use Rattle.review_memory_rows.specs.declared.kept.SentKey.{SentKey}
use Rattle.review_memory_rows.proofs.kept.KeptChanges.find_sent.Goals as goal

pub loop-key-init : goal.loop-key-init
loop-key-init c = λ n p is.
    let base = c.args.base.now in
    let q : SentKey = record { commit = base.commit; change = n; patch = p } in
    let all = row_in sent_cmp (rows_of c.self.inside.sent) q in
    let there = listed_is (rows_of c.self.inside.kept) base n p (rows_of c.self.inside.sent) c.self.invariant.by_commit
    (subst (λ (v : KeptView). is_sent (row_in nat_cmp (rows_of v.kept) n) base p ≡ true) (sym c.self.view_is) (sent_of c.args.merged (row_in nat_cmp (rows_of c.args.self.now.kept) n) base p is)) in
    ap (λ xs. row_in sent_cmp (map deref_pair xs) q) c.into_iter-key-iterator.ensures.into_iter_gives.0
    ∙ c.in_ok-items.ensures.found q
    ∙ (λ i. cond (is_le (sent_cmp (c.in_ok-from.ensures i) q) && not (is_lt (sent_cmp (c.in_ok-to.ensures i) q))) all None)
    ∙ ap (λ b. cond b all None) (between base.commit n p (c.self.invariant.by_commit.fits q there))
    ∙ there

pub loop-key-preserved : goal.loop-key-preserved
loop-key-preserved c = λ n p is.
    let base = c.args.base.now in
    let Holds = λ (k : SentKey). IsSentAs c.args.merged (row_in nat_cmp (rows_of c.args.self.now.kept) k.change) base k.patch in
    let q : SentKey = record { commit = base.commit; change = n; patch = p } in
    still_left exact_sent Holds q c.in-Some.key.now (map deref_pair c.next.new.self.rest.items) is
    (subst (λ b. MatchBool b (Holds c.in-Some.key.now) (Holds c.in-Some.key.now → ⊥)) c.if-has_sent.false c.has_sent.ensures)
    (sym (ap (λ xs. row_in sent_cmp (map deref_pair xs) q) c.in-Some.ensures.steps.0) ∙ c.loop-key.invariant n p is)

pub returns-then-has_sent : goal.returns-then-has_sent
returns-then-has_sent c =
    let key = c.in-Some.key.now in
    let Holds = IsSentAs c.args.merged (row_in nat_cmp (rows_of c.args.self.now.kept) key.change) c.args.base.now key.patch in
    subst (λ b. MatchBool b Holds (Holds → ⊥)) c.if-has_sent.true c.has_sent.ensures

nothing : (o : Option (Unit {0})) → o ≡ None → o ≡ Some tt → ⊥
nothing None none there = absurd (cc)
nothing (Some u) none there = absurd (cc)

pub returns : goal.returns
returns c = λ n p is.
    let q : SentKey = record { commit = c.args.base.now.commit; change = n; patch = p } in
    let steps = c.in-None.ensures.steps in
    let empty : c.loop-key.key-iterator.rest.items ≡ [] = grind (arith, common_steps) in
    nothing (row_in sent_cmp (map deref_pair c.loop-key.key-iterator.rest.items) q) (ap (λ xs. row_in sent_cmp (map deref_pair xs) q) empty) (c.loop-key.invariant n p is)
