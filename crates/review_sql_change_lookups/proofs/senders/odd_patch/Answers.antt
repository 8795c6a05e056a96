use Rattle.std.proofs.Common.{◌≡◌, ◌∙◌, false, rules, sym}
use Rattle.review_sql_change_lookups.proofs.Sending.{elsewhere, odd_patch_damaged}
use Rattle.review_sql_change_lookups.proofs.senders.odd_patch.Goals as goal

pub returns-then-is_for : goal.returns-then-is_for
returns-then-is_for c = λ merged n p db stands odd. odd_patch_damaged db n p odd

pub returns-else-is_for : goal.returns-else-is_for
returns-else-is_for c = λ merged n p db stands odd.
    let other : c.is_for.result ≡ false = search rules in
    elsewhere merged c.args.base.now n p db c.args.header.now stands (λ project branch. let e = sym other ∙ c.is_for.ensures.1 (project, branch) in cc)
