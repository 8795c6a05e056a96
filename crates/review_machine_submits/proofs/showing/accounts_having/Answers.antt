use Rattle.std.proofs.Common.{◌∙◌, Some, ap, map, subst, sym}
use Rattle.std.specs.{List.filter, Map.keys_of, Map.Iter.deref_pair}
use Rattle.review_core_rules.specs.{Listed.AreThose, Seen.of_account}
use Rattle.{review_machine_rows.specs.Answer.has_role, review_machine_submits.proofs.Loaded.those_listed}
use Rattle.review_machine_submits.proofs.showing.accounts_having.Goals as goal

pub returns : goal.returns
returns c =
    let a = c.args in
    let rows = ap (map deref_pair) c.deref.ensures.value ∙ c.in_ok-rows.ensures.rows in
    let those = c.from_vec.ensures ∙ (c.in_ok-accounts.ensures ∙ ap (λ rs. keys_of (filter (λ e. has_role a.asked (Some e.1)) rs)) rows) in
    subst (AreThose (λ u. has_role a.asked (of_account a.roles.now u))) (sym those) (those_listed a.asked _ c.rows.ensures.sorted)
