use Rattle.review_sql_tables.proofs.Common.{◌≡◌, ℕ, Option, Some, None, Ok, subst, rules, Trees, HasGreatest}
use Rattle.review_sql_records.proofs.Common.{look_both, look_on}
use Rattle.review_sql_change_records.specs.Forms.{change_places}
use Rattle.review_sql_change_lookups.proofs.Placed.{last_joined_damaged}
use Rattle.review_sql_change_lookups.proofs.places.find_last_joined.Goals as goal

pub returns-in_ok-header-in-Some-Some-clause-looks : goal.returns-in_ok-header-in-Some-Some-clause-looks
returns-in_ok-header-in-Some-Some-clause-looks g c =
    let last = c.in-Some-Some.last in
    let G : Trees → Option (Option (ℕ × ℕ)) → Type 0 = λ db found. HasGreatest change_places 8 c.args.branch.now db found in
    let is : c.in_ok-found.found ≡ Some (Some last) = search rules in
    let both = look_both G _ _ _ _ c.in_ok-found.found (Ok c.in_ok-header-in-Some-Some.header) c.in_ok-found.ensures.looks c.in_ok-header-in-Some-Some.ensures.looks in
    look_on _ _ _ _ c.in_ok-header-in-Some-Some.header (Ok c.tell_last_joined.result) both (λ db h. c.tell_last_joined.ensures db (subst (G db) is h.0) h.1)

pub returns-in-Some-None-clause-looks : goal.returns-in-Some-None-clause-looks
returns-in-Some-None-clause-looks g c =
    let key = c.args.branch.now in
    let G : Trees → Option (Option (ℕ × ℕ)) → Type 0 = λ db found. HasGreatest change_places 8 key db found in
    let is : c.in_ok-found.found ≡ Some None = search rules in
    look_on G _ _ _ c.in_ok-found.found (Ok _) c.in_ok-found.ensures.looks (λ db h. last_joined_damaged db key (subst (G db) is h))

pub returns-in-None-clause-looks : goal.returns-in-None-clause-looks
returns-in-None-clause-looks g c =
    let key = c.args.branch.now in
    let G : Trees → Option (Option (ℕ × ℕ)) → Type 0 = λ db found. HasGreatest change_places 8 key db found in
    let is : c.in_ok-found.found ≡ None = search rules in
    look_on G _ _ _ c.in_ok-found.found (Ok c.none_joined.result) c.in_ok-found.ensures.looks (λ db h. c.none_joined.ensures key db (subst (G db) is h))
