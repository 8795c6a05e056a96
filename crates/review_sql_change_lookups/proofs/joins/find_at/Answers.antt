use Rattle.review_sql_tables.proofs.Common.{◌≡◌, ◌∙◌, Some, None, Ok, sym, rules}
use Rattle.review_sql_records.proofs.Common.{look_both, look_on}
use Rattle.review_sql_change_lookups.proofs.Placed.{gap_tells, place_damaged, tells_at}
use Rattle.review_sql_change_lookups.specs.Joins.{TellsAt}
use Rattle.review_sql_change_lookups.proofs.joins.find_at.Goals as goal

pub returns-clause-looks : goal.returns-clause-looks
returns-clause-looks g c =
    let n = c.in-Some-change.change in
    let is : c.in_ok-found.found ≡ Some (Some n) = search rules in
    let one = look_both _ _ _ _ _ c.in_ok-found.found (Ok c.in_ok-header.header) c.in_ok-found.ensures.looks c.in_ok-header.ensures.looks in
    let two = look_both _ _ _ _ _ c.in_ok-header.header (Ok c.in_ok-patch.patch) one c.in_ok-patch.ensures.looks in
    look_on _ _ _ _ c.in_ok-patch.patch (Ok c.joined_at.result) two (λ db h. tells_at db c.args.key.now c.joined_at.result (c.joined_at.ensures db (sym is ∙ h.0.0) h.0.1 h.1))

pub returns-in_default-clause-looks : goal.returns-in_default-clause-looks
returns-in_default-clause-looks g c =
    let key = c.args.key.now in
    let is : c.in_ok-found.found ≡ None = search rules in
    look_on _ (TellsAt key) _ _ c.in_ok-found.found (Ok None) c.in_ok-found.ensures.looks (λ db h. gap_tells db key c.requires (sym h ∙ is))

pub returns-in_default-change-clause-looks : goal.returns-in_default-change-clause-looks
returns-in_default-change-clause-looks g c =
    let key = c.args.key.now in
    let is : c.in_ok-found.found ≡ Some None = search rules in
    look_on _ (TellsAt key) _ _ c.in_ok-found.found (Ok None) c.in_ok-found.ensures.looks (λ db h last n le at. place_damaged db key c.requires (sym h ∙ is))
