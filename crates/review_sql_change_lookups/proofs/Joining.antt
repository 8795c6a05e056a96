-- The last place that a change joined a branch at.
use Rattle.review_words.specs.declared.shown.State.{State}
use Rattle.review_sql_tables.proofs.Common.{◌≡◌, ◌∙◌, ℕ, pos, List, Bool, true, false, Option, Some, None, is_gt, refl, sym, ap, subst, inl, inr, and_from, both_ways, same_Some, is_eq, Has, Trees, value_cmp-Int, Raw, column, value_cmp, Int, Text, has_key, HasGreatest, reads, row_at, rows_at}
use Rattle.review_core_rules.specs.{Parts.AHeader, declared.rows.Header.Header}
use Rattle.review_machine_rows.specs.Known.{IsLastJoined}
use Rattle.review_sql_records.proofs.Common.{is_slashed_name, IsAtPlace, APart, BranchKey, is_small, both_are, number_is, passed}
use Rattle.review_sql_change_records.specs.{Forms.change_places, Forms.headed, Forms.headers, Laws.at_text}
use Rattle.review_sql_lookups.proofs.Telling.{greater, has_in, in_has, stored_row}
use Rattle.review_sql_lookups.specs.Tables.{tables_at, told}
use Rattle.review_sql_change_lookups.proofs.Sending.{all_has, header_from, part_found}
use Rattle.review_sql_change_lookups.specs.Joins.{IsHeaderAt, NoneAbove}

pub headed_at : (a b s : Option (List ℕ)) (o : Option ℕ) (t : Option State) (w : Option Bool) (p u : Option ℕ) (h : Header) → headed a b s o t w p u ≡ Some h → (a ≡ Some h.project) × (b ≡ Some h.branch) × (p ≡ Some h.place)
headed_at None b s o t w p u h is = absurd (cc)
headed_at (Some a) None s o t w p u h is = absurd (cc)
headed_at (Some a) (Some b) None o t w p u h is = absurd (cc)
headed_at (Some a) (Some b) (Some s) None t w p u h is = absurd (cc)
headed_at (Some a) (Some b) (Some s) (Some o) None w p u h is = absurd (cc)
headed_at (Some a) (Some b) (Some s) (Some o) (Some t) None p u h is = absurd (cc)
headed_at (Some a) (Some b) (Some s) (Some o) (Some t) (Some w) None u h is = absurd (cc)
headed_at (Some a) (Some b) (Some s) (Some o) (Some t) (Some w) (Some p) None h is = absurd (cc)
headed_at (Some a) (Some b) (Some s) (Some o) (Some t) (Some w) (Some p) (Some u) h is =
    let e = same_Some _ _ is in (ap (λ (h : Header). Some h.project) e, ap (λ (h : Header). Some h.branch) e, ap (λ (h : Header). Some h.place) e)

-- a change at a place of the branch has its row among those of the branch, with the place and its number
pub among : (db : Trees) (key : BranchKey) (place n : ℕ) → IsAtPlace (tables_at db).row key place n → (r : Raw) × Has (rows_at (change_places.at key) (db 9)) r × (column r 8 ≡ Int (pos place)) × (has_key (headers.at n) r ≡ true)
among db key place n at =
    let found = part_found AHeader (row_at headers db n) (AHeader at.header) at.stands in
    let stands : row_at headers db n ≡ Some (Some at.header) = found.2 ∙ ap (λ x. Some (Some x)) (header_from found.0 at.header found.1) in
    let row = stored_row (reads headers) (rows_at (headers.at n) (db 9)) at.header stands in
    let stored = has_in (has_key (headers.at n)) (db 9) row.0 row.1 in
    let parts = headed_at _ _ _ _ _ _ _ _ at.header row.2 in
    let project : is_eq (value_cmp (column row.0 2) (Text key.project)) ≡ true = subst (λ t. is_eq (value_cmp (column row.0 2) (Text t)) ≡ true) at.project (at_text (column row.0 2) at.header.project (passed is_slashed_name _ at.header.project parts.0)) in
    let branch : is_eq (value_cmp (column row.0 3) (Text key.branch)) ≡ true = subst (λ t. is_eq (value_cmp (column row.0 3) (Text t)) ≡ true) at.branch (at_text (column row.0 3) at.header.branch (passed is_slashed_name _ at.header.branch parts.1)) in (
      row.0,
      in_has (has_key (change_places.at key)) (db 9) row.0 stored.0 (and_from _ _ project (and_from _ _ branch refl)),
      number_is (column row.0 8) at.header.place (passed is_small _ at.header.place parts.2) ∙ ap (λ p. Int (pos p)) at.placed,
      stored.1,
    )

-- the place of the row that was found
placed : (n m : ℕ) (r : Raw) → reads change_places r ≡ Some (n, m) → column r 8 ≡ Int (pos m)
placed n m r is = number_is (column r 8) m (passed is_small _ m (both_are _ _ n m is).1)

-- no change is at a later place than the greatest
pub none_above : (db : Trees) (key : BranchKey) (n m : ℕ) → HasGreatest change_places 8 key db (Some (Some (n, m))) → NoneAbove key m db
none_above db key n m great p k less at =
    let it = among db key p k at in
    let most = all_has (λ q. is_gt (value_cmp (column q 8) (column great.0 8)) ≡ false) (rows_at (change_places.at key) (db 9)) it.0 great.1.most it.1 in
    let less_so : is_gt (value_cmp (Int (pos p)) (Int (pos m))) ≡ false = subst (λ v. is_gt (value_cmp v (Int (pos m))) ≡ false) it.2 (subst (λ v. is_gt (value_cmp (column it.0 8) v) ≡ false) (placed n m great.0 (sym great.2)) most) in
    both_ways _ less_so (ap is_gt (value_cmp-Int (pos p) (pos m)) ∙ greater p m less)

pub none_at_all : (db : Trees) (key : BranchKey) (m : ℕ) → HasGreatest change_places 8 key db None → NoneAbove key m db
none_at_all db key m none p k less at = let it = among db key p k at in subst (λ l. Has l it.0) none it.1

pub last_joined : (db : Trees) (key : BranchKey) (n m : ℕ) (found : Option (Option Header)) → HasGreatest change_places 8 key db (Some (Some (n, m))) → found ≡ row_at headers db n → IsHeaderAt found key.project key.branch m → IsLastJoined (tables_at db).row key m
last_joined db key n m found great stands head = record {
  above = none_above db key n m great;
  there = inr (n, record { header = head.0; stands = ap (told (λ x. APart (AHeader x))) (sym stands ∙ head.1); project = head.2; branch = head.3; placed = head.4 });
}

pub none_joined : (db : Trees) (key : BranchKey) → HasGreatest change_places 8 key db None → IsLastJoined (tables_at db).row key 0
none_joined db key none = record {
  above = none_at_all db key 0 none;
  there = inl refl;
}
