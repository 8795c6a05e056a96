use Rattle.std.proofs.Common.{◌+◌, ◌∙◌, ap, ltb-true, nat_lt, sym}
use Rattle.review_machine_rows.{proofs.Common.CreateAccount, specs.Answer.checks, specs.Desks.facts_in}
use Rattle.review_machine_laws.proofs.{Changes.all_pass, Checked.asked_beside, Checked.create_account_told}
use Rattle.review_machine_laws.proofs.Told.{last_told}
use Rattle.review_machine_accounts.proofs.Decided.{create_decided, refused_pair}
use Rattle.review_machine_accounts.proofs.accounts.create_account.Goals as goal

pub returns-in-Some-clause-decided : goal.returns-in-Some-clause-decided
returns-in-Some-clause-decided c = λ reading effective h account l.
    let a = c.args in
    refused_pair h a.caller (CreateAccount a.name.now) c.refused.result c.in-Some.refusal c.refused.ensures.empty c.refused.ensures.reply
    (create_account_told reading h a.caller effective a.rows.now a.name.now account l ∙ (sym c.in_ok-refusal.ensures ∙ c.in-Some.is))

pub next_account-number-requires : goal.next_account-number-requires
next_account-number-requires c =
    let all = all_pass (checks (facts_in c.args.rows.now) c.args.caller (CreateAccount c.args.name.now)) (sym c.in_ok-refusal.ensures ∙ c.in_default.is) in
    ltb-true c.last_account.result 1000000 (ap (λ n. nat_lt n 1000000) c.last_account.ensures ∙ all.1.1.0)

pub returns-clause-decided : goal.returns-clause-decided
returns-clause-decided c = λ reading effective h account l.
    let a = c.args in
    create_decided h a.caller a.name.now c.in_ok-delta.delta c.next_account-number.result
    (create_account_told reading h a.caller effective a.rows.now a.name.now account l ∙ (sym c.in_ok-refusal.ensures ∙ c.in_default.is))
    (c.next_account-number.ensures ∙ ap (λ k. k + 1) (c.last_account.ensures ∙ last_told reading h a.rows.now l.agree (asked_beside h a.caller (CreateAccount a.name.now) a.rows.now l).1.0))
    c.in_ok-delta.ensures.delta
