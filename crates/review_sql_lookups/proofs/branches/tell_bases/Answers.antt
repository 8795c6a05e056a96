use Rattle.review_sql_tables.proofs.Common.{◌≡◌, Some, None, option_map, refl, rules, subst, nat_cmp, rows_of, AreParts}
use Rattle.review_sql_records.proofs.Common.{branch_bases, base_parts}
use Rattle.review_sql_lookups.proofs.{Odd.bases_odd, Telling.bases_told, Telling.bases_damaged}
use Rattle.review_sql_lookups.specs.Loads.{IsOrdered}
use Rattle.review_sql_lookups.proofs.branches.tell_bases.Goals as goal

pub returns-in-Ok-Some : goal.returns-in-Ok-Some
returns-in-Ok-Some c = λ branch db have.
    let t = c.in-Some.places in
    let bases = c.in-Ok-Some.bases in
    let is : c.args.found ≡ Some t = search rules in
    let some : c.in-Ok-Some.field-0 ≡ Some bases = search rules in
    (bases, refl, bases_told db branch (rows_of t) bases (subst (λ o. AreParts nat_cmp branch_bases base_parts branch db (option_map (λ t. rows_of t) o)) is have) (subst (IsOrdered (rows_of t)) some c.in-Ok-Some.ensures))

pub returns-in-Ok-None : goal.returns-in-Ok-None
returns-in-Ok-None c = λ branch db have.
    let t = c.in-Some.places in
    let is : c.args.found ≡ Some t = search rules in
    let none : c.in-Ok-None.field-0 ≡ None = search rules in
    bases_damaged db branch (rows_of t) (subst (λ o. AreParts nat_cmp branch_bases base_parts branch db (option_map (λ t. rows_of t) o)) is have) (subst (IsOrdered (rows_of t)) none c.in-Ok-None.ensures)

pub returns-in_default : goal.returns-in_default
returns-in_default c = λ branch db have.
    let none : c.args.found ≡ None = search rules in
    bases_odd db branch (subst (λ o. AreParts nat_cmp branch_bases base_parts branch db (option_map (λ t. rows_of t) o)) none have)
