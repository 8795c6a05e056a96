use Rattle.review_sql_tables.proofs.Common.{rules, ◌≡◌, Option, ℕ, None, Some, Ok, Trees, HasGreatest}
use Rattle.review_sql_records.proofs.Common.{look_both, look_on, is_small}
use Rattle.{review_sql_records.specs.Forms.where_is, review_sql_change_records.specs.Forms.change_numbers}
use Rattle.review_sql_lookups.specs.{Loads.Sees, Loads.last_of, declared.sights.Sight.Sight}
use Rattle.review_sql_change_lookups.proofs.Reviewing.{fresh, none_after}
use Rattle.review_sql_change_lookups.specs.Reviews.{IsFresh, number_after}
use Rattle.review_machine_rows.specs.declared.rows.Want.TheVariants as want
use Rattle.review_sql_change_lookups.proofs.reviews.find_last_change.Goals as goal

pub returns-in_default-clause-looks : goal.returns-in_default-clause-looks
returns-in_default-clause-looks g c =
    look_on _ _ _ _ c.in_ok-found.found (Ok c.tell_last_change.result) c.in_ok-found.ensures.looks (λ db h. c.tell_last_change.ensures db h)

pub returns-in_default-clause-fresh : goal.returns-in_default-clause-fresh
returns-in_default-clause-fresh g c =
    let none : number_after (where_is is_small (last_of c.in_ok-found.found)) ≡ None = search rules in
    look_on _ IsFresh _ _ c.in_ok-found.found (Ok c.tell_last_change.result) c.in_ok-found.ensures.looks
    (λ db h. fresh db c.tell_last_change.result (none_after db c.in_ok-found.found h none))

pub returns-clause-looks : goal.returns-clause-looks
returns-clause-looks g c =
    let F : Trees → Option (Option ℕ) → Type 0 = λ db found. HasGreatest change_numbers 0 tt db found in
    let G : Trees → Sight → Type 0 = λ db s. Sees (want.Change c.in-Some.next) db s in
    let both = look_both F G _ _ _ c.in_ok-found.found (Ok c.in_ok-looked.looked) c.in_ok-found.ensures.looks c.in_ok-looked.ensures.looks in
    look_on (λ db s. F db c.in_ok-found.found × G db s) _ _ _ c.in_ok-looked.looked (Ok c.last_beside.result) both (λ db h. c.last_beside.ensures.told c.in-Some.next db h.0 h.1)

pub returns-clause-fresh : goal.returns-clause-fresh
returns-clause-fresh g c =
    let F : Trees → Option (Option ℕ) → Type 0 = λ db found. HasGreatest change_numbers 0 tt db found in
    let G : Trees → Sight → Type 0 = λ db s. Sees (want.Change c.in-Some.next) db s in
    let is : number_after (where_is is_small (last_of c.in_ok-found.found)) ≡ Some c.in-Some.next = search rules in
    let both = look_both F G _ _ _ c.in_ok-found.found (Ok c.in_ok-looked.looked) c.in_ok-found.ensures.looks c.in_ok-looked.ensures.looks in
    look_on (λ db s. F db c.in_ok-found.found × G db s) IsFresh _ _ c.in_ok-looked.looked (Ok c.last_beside.result) both (λ db h. c.last_beside.ensures.fresh c.in-Some.next db h.0 is h.1)
