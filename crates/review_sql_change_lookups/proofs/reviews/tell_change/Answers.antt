use Rattle.std.proofs.Common.{◌≡◌, Some, rules, subst}
use Rattle.review_machine_change_rows.specs.{Tables.HaveFault, declared.loading.ChangeFault.TheVariants.Gap}
use Rattle.review_sql_change_lookups.{proofs.Reviewing.gap_damaged, proofs.Reviewing.why_told, specs.Reviews.HaveTables}
use Rattle.review_machine_rows.specs.declared.rows.Want.TheVariants as want
use Rattle.review_sql_change_lookups.proofs.reviews.tell_change.Goals as goal

pub returns-in-Err-Gap : goal.returns-in-Err-Gap
returns-in-Err-Gap c =
    let t = c.in-Ok-Some.tables in
    let some : c.in-Ok-Some.field-0 ≡ Some t = search rules in
    let fault : HaveFault t Gap = search rules in
    (λ number db are. gap_damaged number db t (subst (HaveTables number db) some (c.in-Ok-Some.ensures.ok number db are)) fault)

pub returns-in-Err : goal.returns-in-Err
returns-in-Err c = λ number db are. why_told number db c.in-Err.sight (want.Change number) (c.in-Err.ensures.err number db are)
