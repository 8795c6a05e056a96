use Rattle.std.proofs.Common.{◌∙◌, List, ℕ, ap, map, refl}
use Rattle.review_machine_submits.proofs.Decided.{there_placed, chain_once}
use Rattle.review_machine_submits.proofs.joining.join_chain.Goals as goal

pub join_edits-requires : goal.join_edits-requires
join_edits-requires c =
    let a = c.args in
    there_placed a.rows.now c.deref.result.now a.chain.now (ap (λ (js : List (ℕ × ℕ)). map (λ j. j.0) js) c.deref.ensures.value ∙ c.in_ok-joined.ensures.order) c.requires.there

pub returns-clause-once : goal.returns-clause-once
returns-clause-once c =
    let a = c.args in
    let empty = c.nothing-delta.ensures in
    chain_once a.rows.now c.next_request-request.result c.deref.result.now c.in_ok-edits.edits.items a.chain.now (record c.nothing-delta.result { changes = c.in_ok-edits.edits })
    (ap (λ (js : List (ℕ × ℕ)). map (λ j. j.0) js) c.deref.ensures.value ∙ c.in_ok-joined.ensures.order) c.in_ok-edits.ensures.edits c.requires.distinct c.in_ok-edits.ensures.once
    (record { accounts = empty.accounts; members = empty.members; file = empty.file; base = empty.base; changes = refl; epoch = empty.epoch })
