use Rattle.review_sql_tables.proofs.Common.{◌≡◌, ℕ, Option, Some, None, Ok, subst, rules, Trees, HasOne}
use Rattle.review_sql_records.proofs.Common.{look_both, look_on, account_names}
use Rattle.review_sql_lookups.proofs.Odd.{name_damaged}
use Rattle.review_sql_lookups.proofs.people.find_holder.Goals as goal

pub returns-in_ok-named-in-Some-Some-clause-looks : goal.returns-in_ok-named-in-Some-Some-clause-looks
returns-in_ok-named-in-Some-Some-clause-looks g c =
    let number = c.in-Some-Some.number in
    let N : Trees → Option (Option ℕ) → Type 0 = λ db found. HasOne account_names c.args.name.now db found in
    let is : c.in_ok-found.found ≡ Some (Some number) = search rules in
    let both = look_both N _ _ _ _ c.in_ok-found.found (Ok c.in_ok-named-in-Some-Some.named) c.in_ok-found.ensures.looks c.in_ok-named-in-Some-Some.ensures.looks in
    look_on _ _ _ _ c.in_ok-named-in-Some-Some.named (Ok c.tell_holder.result) both (λ db h. c.tell_holder.ensures db (subst (N db) is h.0) h.1)

pub returns-in-Some-None-clause-looks : goal.returns-in-Some-None-clause-looks
returns-in-Some-None-clause-looks g c =
    let name = c.args.name.now in
    let N : Trees → Option (Option ℕ) → Type 0 = λ db found. HasOne account_names name db found in
    let is : c.in_ok-found.found ≡ Some None = search rules in
    look_on N _ _ _ c.in_ok-found.found (Ok _) c.in_ok-found.ensures.looks (λ db h. name_damaged db name (subst (N db) is h))

pub returns-in-None-clause-looks : goal.returns-in-None-clause-looks
returns-in-None-clause-looks g c =
    let name = c.args.name.now in
    let N : Trees → Option (Option ℕ) → Type 0 = λ db found. HasOne account_names name db found in
    let is : c.in_ok-found.found ≡ None = search rules in
    look_on N _ _ _ c.in_ok-found.found (Ok c.no_holder.result) c.in_ok-found.ensures.looks (λ db h. c.no_holder.ensures name db (subst (N db) is h))
