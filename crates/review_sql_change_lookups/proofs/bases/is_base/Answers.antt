use Rattle.review_sql_tables.proofs.Common.{◌≡◌, ◌∙◌, ℕ, Option, Some, None, Ok, subst, ap, rules, Trees, HasOne, row_at}
use Rattle.review_sql_records.proofs.Common.{look_both, look_on, base_commits}
use Rattle.{review_sql_records.specs.Forms.bases, review_sql_lookups.proofs.Odd.commit_damaged}
use Rattle.review_sql_change_lookups.proofs.bases.is_base.Goals as goal

pub returns-in_ok-stored-in-Some-Some-clause-looks : goal.returns-in_ok-stored-in-Some-Some-clause-looks
returns-in_ok-stored-in-Some-Some-clause-looks g c =
    let N : Trees → Option (Option ℕ) → Type 0 = λ db found. HasOne base_commits c.args.base.now db found in
    let is : c.in_ok-found.found ≡ Some (Some c.in-Some-Some.place) = search rules in
    let both = look_both N _ _ _ _ c.in_ok-found.found (Ok c.in_ok-stored-in-Some-Some.stored) c.in_ok-found.ensures.looks c.in_ok-stored-in-Some-Some.ensures.looks in
    look_on _ _ _ _ c.in_ok-stored-in-Some-Some.stored (Ok c.stands_at.result) both (λ db h. c.stands_at.ensures db (subst (N db) is h.0) (h.1 ∙ ap (row_at bases db) c.in_ok-key-in-Some-Some.ensures))

pub returns-in-Some-None-clause-looks : goal.returns-in-Some-None-clause-looks
returns-in-Some-None-clause-looks g c =
    let base = c.args.base.now in
    let N : Trees → Option (Option ℕ) → Type 0 = λ db found. HasOne base_commits base db found in
    let is : c.in_ok-found.found ≡ Some None = search rules in
    look_on N _ _ _ c.in_ok-found.found (Ok None) c.in_ok-found.ensures.looks (λ db h. commit_damaged db base (subst (N db) is h))

pub returns-in-None-clause-looks : goal.returns-in-None-clause-looks
returns-in-None-clause-looks g c =
    let N : Trees → Option (Option ℕ) → Type 0 = λ db found. HasOne base_commits c.args.base.now db found in
    let is : c.in_ok-found.found ≡ None = search rules in
    look_on N _ _ _ c.in_ok-found.found (Ok c.stands_nowhere.result) c.in_ok-found.ensures.looks (λ db h. c.stands_nowhere.ensures db (subst (N db) is h))
