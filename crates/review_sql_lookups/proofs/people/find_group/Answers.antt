use Rattle.review_sql_tables.proofs.Common.{Option, List, ℕ, option_map, Ok, Some, None, nat_cmp, Trees, rows_of, AreParts}
use Rattle.review_sql_records.proofs.Common.{look_on, HasMembers, group_members, member_parts}
use Rattle.review_sql_lookups.proofs.{Odd.members_damaged, Telling.group_told}
use Rattle.review_sql_lookups.specs.{Loads.IfTold, Tables.tables_at}
use Rattle.review_sql_lookups.proofs.people.find_group.Goals as goal

pub returns-clause-looks : goal.returns-clause-looks
returns-clause-looks g c =
    let group = c.args.group.now in
    let found = c.in_ok-found.found in
    look_on _ _ _ _ found (Ok found) c.in_ok-found.ensures.looks (λ db h. told db group found h)
  where
    told : (db : Trees) (group : List ℕ) (found : Option (List (ℕ × Option (Unit {0})))) → AreParts nat_cmp group_members member_parts group db (option_map (λ t. rows_of t) found) → IfTold db (λ t. HasMembers (tables_at db).row group (rows_of t)) found
    told db group None h = members_damaged db group h
    told db group (Some t) h = group_told db group (rows_of t) h
