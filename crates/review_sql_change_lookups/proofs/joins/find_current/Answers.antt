use Rattle.review_sql_tables.proofs.Common.{◌≡◌, ℕ, Option, Some, None, Ok, inl, inr, subst, rules, Trees, HasGreatest}
use Rattle.review_sql_records.proofs.Common.{look_both, look_on}
use Rattle.review_sql_change_records.specs.Forms.{patch_numbers}
use Rattle.review_sql_change_lookups.proofs.Current.{no_sets, tells_current}
use Rattle.review_sql_change_lookups.{proofs.Placed.last_set_damaged, specs.Joins.TellsCurrent}
use Rattle.review_sql_change_lookups.proofs.joins.find_current.Goals as goal

pub returns-clause-looks : goal.returns-clause-looks
returns-clause-looks g c =
    let n = c.args.change in
    let k = c.in-Some-number.number in
    let F : Trees → Option (Option ℕ) → Type 0 = λ db found. HasGreatest patch_numbers 2 n db found in
    let is : c.in_ok-last.last ≡ Some (Some k) = search rules in
    let both = look_both F _ _ _ _ c.in_ok-last.last (Ok c.in_ok-found.found) c.in_ok-last.ensures.looks c.in_ok-found.ensures.looks in
    look_on _ _ _ _ c.in_ok-found.found (Ok c.current.result) both (λ db h. tells_current n db c.current.result (c.current.ensures n db (subst (F db) is h.0) h.1))

pub returns-in_default-clause-looks : goal.returns-in_default-clause-looks
returns-in_default-clause-looks g c =
    let n = c.args.change in
    let F : Trees → Option (Option ℕ) → Type 0 = λ db found. HasGreatest patch_numbers 2 n db found in
    let is : c.in_ok-last.last ≡ None = search rules in
    look_on F (TellsCurrent n) _ _ c.in_ok-last.last (Ok None) c.in_ok-last.ensures.looks (λ db h. inr (no_sets db n (subst (F db) is h)))

pub returns-in_default-number-clause-looks : goal.returns-in_default-number-clause-looks
returns-in_default-number-clause-looks g c =
    let n = c.args.change in
    let F : Trees → Option (Option ℕ) → Type 0 = λ db found. HasGreatest patch_numbers 2 n db found in
    let is : c.in_ok-last.last ≡ Some None = search rules in
    look_on F (TellsCurrent n) _ _ c.in_ok-last.last (Ok None) c.in_ok-last.ensures.looks (λ db h. inl (last_set_damaged db n (subst (F db) is h)))
