-- What the rows of changes at places of a branch show: a change at each place, or that the tables are those of no history.
use Rattle.std.proofs.lemmas.Option.{slice_get-get_or, slice_get_within}
use Rattle.review_words.specs.declared.shown.State.{State}
use Rattle.review_sql_tables.proofs.Common.{◌≡◌, ◌∙◌, ◌⊎◌, ◌<◌, ◌≤◌, ◌+◌, ◌-◌, ◌&&◌, ℕ, pos, List, [], ◌∷◌, Bool, true, false, not, is_some, Option, Some, None, filter, length, refl, sym, ap, subst, inl, inr, arith, cases_Bool, and_from, and_parts, same_Some, is_eq, slice_get, slice_index_or, Has, Trees, Raw, column, value_cmp, Int, Text, number_in, has_key, is_value, HasGreatest, AreFound, only, reads, row_at, rows_at}
use Rattle.review_core_rules.specs.Parts.{TheHeader, PatchOf, AHeader, APatch}
use Rattle.review_core_rules.specs.declared.rows.{Header.Header, PatchRow.PatchRow}
use Rattle.review_machine_rows.specs.{Changes.Reads, Changes.joined, Rows.Row}
use Rattle.review_machine_laws.proofs.{Joined.joined_distinct, Places.get_placed, Places.placed_get}
use Rattle.review_machine_laws.proofs.Rows.{joined_row, placed_row, row_placed}
use Rattle.review_sql_records.proofs.Common.{is_slashed_name, is_within, most_changes, most_patches, Entry, JoinedChange, itself, same_text, reading_of, IsHistory, Reading, IsAtPlace, IsCurrent, PartKey, APart, IsDamaged, IsViewBy, fact, Base, BranchKey, PlaceKey, both, where_is, is_small, at_number, both_are, one_number, passed}
use Rattle.review_sql_change_records.specs.Forms.{change_places, changes_at, headed, headers, patch_numbers, patches, sent, has_change, header_keyed, patch_keyed}
use Rattle.review_sql_change_records.specs.Laws.{at_text}
use Rattle.review_sql_lookups.proofs.Odd.{and_false, any_has, both_missing, no_number, odd_at, only_with, unkeyed}
use Rattle.review_sql_lookups.proofs.Telling.{has_in, in_has, odd_damage}
use Rattle.review_sql_lookups.specs.{Loads.IfTold, Tables.tables_at, Tables.told}
use Rattle.review_sql_change_lookups.proofs.Current.{current_is}
use Rattle.review_sql_change_lookups.proofs.Joining.{among, headed_at, none_above, none_at_all}
use Rattle.review_sql_change_lookups.specs.Joins.{branch_of, IsHeaderAt, IsLastPlace, IsOnlyAt, TellsAt, TellsCurrent}

abbrev a_header : Header → Row
a_header x = APart (AHeader x)

-- ---- one row

-- a row of a change at a place shows that the change of its number stands there, and it is the only row of that number
pub record Stands (db : Trees) (key : PlaceKey) (r : Raw) : Type 0 where
  pub number : ℕ
  pub is : number_in (column r 0) ≡ Some number
  pub at : IsAtPlace (tables_at db).row (branch_of key) key.place number
  pub alone : rows_at (headers.at number) (db 9) ≡ r ∷ []

module _ (db : Trees) (key : PlaceKey) (r : Raw) (has : Has (db 9) r) (at : has_key (changes_at.at key) r ≡ true) where
  project_at : is_eq (value_cmp (column r 2) (Text key.project)) ≡ true
  project_at = (and_parts _ _ at).0

  branch_at : is_eq (value_cmp (column r 3) (Text key.branch)) ≡ true
  branch_at = (and_parts _ _ (and_parts _ _ at).1).0

  place_at : is_value (column r 8) (Int (pos key.place)) ≡ true
  place_at = (and_parts _ _ (and_parts _ _ (and_parts _ _ at).1).1).0

  -- what a row of the key of a change reads as, where it is alone
  single : (n : ℕ) → number_in (column r 0) ≡ Some n → (rows : List Raw) → rows_at (headers.at n) (db 9) ≡ rows → Has rows r → IsDamaged (tables_at db) ⊎ Stands db key r
  single n is [] rows_are here = absurd here
  single n is (s ∷ t ∷ rows) rows_are here = inl (odd_damage (tables_at db) (PartKey n TheHeader) (ap (λ l. told a_header (only (reads headers) l)) rows_are))
  single n is (s ∷ []) rows_are (inr here) = absurd here
  single n is (s ∷ []) rows_are (inl same) = by (reads headers r) refl
    where
      mine : rows_at (headers.at n) (db 9) ≡ r ∷ []
      mine = rows_are ∙ ap (λ x. x ∷ []) (sym same)

      by : (o : Option Header) → reads headers r ≡ o → IsDamaged (tables_at db) ⊎ Stands db key r
      by None none = inl (odd_damage (tables_at db) (PartKey n TheHeader) (ap (λ l. told a_header (only (reads headers) l)) mine ∙ ap (λ x. told a_header (Some x)) none))
      by (Some h) some =
          let parts = headed_at _ _ _ _ _ _ _ _ h some in
          let project : h.project ≡ key.project = same_text (column r 2) h.project key.project (at_text (column r 2) h.project (passed is_slashed_name _ h.project parts.0)) project_at in
          let branch : h.branch ≡ key.branch = same_text (column r 3) h.branch key.branch (at_text (column r 3) h.branch (passed is_slashed_name _ h.branch parts.1)) branch_at in
          let place : h.place ≡ key.place = one_number (column r 8) h.place key.place (passed is_small _ h.place parts.2) place_at in
          inr (record {
            number = n;
            is = is;
            at = record { header = h; stands = ap (λ l. told a_header (only (reads headers) l)) mine ∙ ap (λ x. told a_header (Some x)) some; project = project; branch = branch; placed = place };
            alone = mine;
          })

  pub row_stands : IsDamaged (tables_at db) ⊎ Stands db key r
  row_stands = by (where_is (is_within most_changes) (number_in (column r 0))) refl
    where
      by : (o : Option ℕ) → where_is (is_within most_changes) (number_in (column r 0)) ≡ o → IsDamaged (tables_at db) ⊎ Stands db key r
      by None none = inl (unkeyed db 9 header_keyed (inr (inr (inr (inr (inr (inl refl)))))) r has (no_number (is_within most_changes) (number_in (column r 0)) none))
      by (Some n) some =
          let is = passed (is_within most_changes) (number_in (column r 0)) n some in
          single n is (rows_at (headers.at n) (db 9)) refl (in_has (has_key (headers.at n)) (db 9) r has (and_from _ _ (at_number (column r 0) n is) refl))

-- the key of a place
abbrev place_key : BranchKey → ℕ → PlaceKey
place_key key place = record { project = key.project; branch = key.branch; place = place }

-- ---- places of a history

-- a change at a place, as the history says
at_fact : (reading : Reading) (h : List Entry) (db : Trees) (key : BranchKey) (place n : ℕ) → IsViewBy reading h (tables_at db) → IsAtPlace (tables_at db).row key place n → IsAtPlace (fact reading h) key place n
at_fact reading h db key place n view at = record { header = at.header; stands = sym (view.row_is (PartKey n TheHeader)) ∙ at.stands; project = at.project; branch = at.branch; placed = at.placed }

at_row : (reading : Reading) (h : List Entry) (db : Trees) (key : BranchKey) (place n : ℕ) → IsViewBy reading h (tables_at db) → IsAtPlace (fact reading h) key place n → IsAtPlace (tables_at db).row key place n
at_row reading h db key place n view at = record { header = at.header; stands = view.row_is (PartKey n TheHeader) ∙ at.stands; project = at.project; branch = at.branch; placed = at.placed }

-- before a change that joined at a place there is one at each
pub earlier : (reading : Reading) (h : List Entry) (db : Trees) (key : BranchKey) (place last n : ℕ) → IsHistory h → Reads reading h → IsViewBy reading h (tables_at db) → 0 < place → place ≤ last → IsAtPlace (tables_at db).row key last n
    → (m : ℕ) × IsAtPlace (tables_at db).row key place m
earlier reading h db key place last n history reads view low le at =
    let xs = joined h key.project key.branch in
    let k = placed_get xs n last (row_placed reading h key last n history reads (at_fact reading h db key last n view at) (omega (arith, low, le))) in
    let within = slice_get_within xs k.0 n k.1 in
    let got = slice_get-get_or xs (place - 1) 0 (omega (arith, within, le, low, k.2)) in
    let m = slice_index_or xs (place - 1) 0 in
    let placed = get_placed xs (place - 1) m (joined_distinct reading h key.project key.branch history reads) got in
    let up : (place - 1) + 1 ≡ place = omega (arith, low) in
    (m, at_row reading h db key place m view (placed_row reading h key place m history reads (placed ∙ ap (λ p. Some p) up)))

-- no two changes stand at one place
pub only_change : (reading : Reading) (h : List Entry) (db : Trees) (key : BranchKey) (place m n : ℕ) → IsHistory h → Reads reading h → IsViewBy reading h (tables_at db) → 0 < place → IsAtPlace (tables_at db).row key place m → IsAtPlace (tables_at db).row key place n → m ≡ n
only_change reading h db key place m n history reads view low a b =
    let xs = joined h key.project key.branch in
    let j = placed_get xs m place (row_placed reading h key place m history reads (at_fact reading h db key place m view a) low) in
    let k = placed_get xs n place (row_placed reading h key place n history reads (at_fact reading h db key place n view b) low) in
    let same : j.0 ≡ k.0 = (let p = j.2 in let q = k.2 in omega (arith, p, q)) in
    same_Some _ _ (sym j.1 ∙ ap (slice_get xs) same ∙ k.1)

-- a change that joined has a current patch set
pub has_current : (reading : Reading) (h : List Entry) (db : Trees) (key : BranchKey) (place n : ℕ) → IsHistory h → Reads reading h → IsViewBy reading h (tables_at db) → 0 < place → IsAtPlace (tables_at db).row key place n
    → ((m : ℕ) → (tables_at db).row (PartKey n (PatchOf m)) ≡ None) → ⊥
has_current reading h db key place n history reads view low at none =
    let it = joined_row reading h key place n history reads (row_placed reading h key place n history reads (at_fact reading h db key place n view at) low) in
    let bad = sym (sym (view.row_is (PartKey n (PatchOf it.current.number))) ∙ none it.current.number) ∙ it.current.sent in cc

-- ---- rows at a place

shorter : {X : Type 0} (p q : X → Bool) (xs : List X) → length (filter q (filter p xs)) ≤ length (filter q xs)
shorter p q [] = omega arith
shorter p q (x ∷ xs) = elim (cases_Bool (p x)) [
  | inl in_p ↦ elim (cases_Bool (q x)) [
    | inl in_q ↦ rw (in_p, in_q) (let less = shorter p q xs in omega (arith, less))
    | inr out ↦ rw (in_p, out) (shorter p q xs)
  ]
  | inr out_p ↦ elim (cases_Bool (q x)) [
    | inl in_q ↦ rw (out_p, in_q) (let less = shorter p q xs in omega (arith, less))
    | inr out ↦ rw (out_p, out) (shorter p q xs)
  ]
]

two_pass : {X : Type 0} (q : X → Bool) (r s : X) (rows : List X) → q r ≡ true → q s ≡ true → 2 ≤ length (filter q (r ∷ s ∷ rows))
two_pass q r s rows a b = rw (a, b) (omega arith)

-- the rows of a place are odd only where the tables are those of no history
pub place_damaged : (db : Trees) (key : PlaceKey) → 0 < key.place → row_at changes_at db key ≡ Some None → IsDamaged (tables_at db)
place_damaged db key low odd = by (rows_at (changes_at.at key) (db 9)) refl odd
  where
    within : (rows : List Raw) → rows_at (changes_at.at key) (db 9) ≡ rows → (r : Raw) → Has rows r → Has (db 9) r × (has_key (changes_at.at key) r ≡ true)
    within rows are r has = has_in (has_key (changes_at.at key)) (db 9) r (subst (λ l. Has l r) (sym are) has)

    both_stand : (r s : Raw) (rows : List Raw) → rows_at (changes_at.at key) (db 9) ≡ r ∷ s ∷ rows → Stands db key r → Stands db key s → IsDamaged (tables_at db)
    both_stand r s rows are one two h history view =
        let read = reading_of h history in
        let same = only_change read.0 h db (branch_of key) key.place one.number two.number history read.1 (view read.0 read.1) low one.at two.at in
        let q = has_key (headers.at one.number) in
        let first : q r ≡ true = and_from _ _ (at_number (column r 0) one.number one.is) refl in
        let second : q s ≡ true = and_from _ _ (at_number (column s 0) one.number (two.is ∙ ap (λ n. Some n) (sym same))) refl in
        let many : 2 ≤ length (filter q (rows_at (changes_at.at key) (db 9))) = subst (λ l. 2 ≤ length (filter q l)) (sym are) (two_pass q r s rows first second) in
        let few = shorter (has_key (changes_at.at key)) q (db 9) in
        let size : length (filter q (db 9)) ≡ 1 = ap length one.alone in
        omega (arith, many, few, size)

    by : (rows : List Raw) → rows_at (changes_at.at key) (db 9) ≡ rows → only (reads changes_at) rows ≡ Some None → IsDamaged (tables_at db)
    by [] are none = absurd (cc)
    by (r ∷ []) are none =
        let it = within (r ∷ []) are r (inl refl) in
        unkeyed db 9 header_keyed (inr (inr (inr (inr (inr (inl refl)))))) r it.0 (no_number (is_within most_changes) (number_in (column r 0)) (same_Some _ _ none))
    by (r ∷ s ∷ rows) are none =
        let a = within (r ∷ s ∷ rows) are r (inl refl) in
        let b = within (r ∷ s ∷ rows) are s (inr (inl refl)) in
        elim (row_stands db key r a.0 a.1) [
          | inl damaged ↦ damaged
          | inr one ↦ elim (row_stands db key s b.0 b.1) [ inl damaged ↦ damaged | inr two ↦ both_stand r s rows are one two ]
        ]

-- a place before one at which a change stands has a change
pub gap_tells : (db : Trees) (key : PlaceKey) → 0 < key.place → row_at changes_at db key ≡ None → TellsAt key db None
gap_tells db key low none last n le at h history view =
    let read = reading_of h history in
    let m = earlier read.0 h db (branch_of key) key.place last n history read.1 (view read.0 read.1) low le at in
    let it = among db (branch_of key) key.place m.0 m.1 in
    let row = has_in (has_key (change_places.at (branch_of key))) (db 9) it.0 it.1 in
    let parts = and_parts _ _ row.1 in
    let placed : is_value (column it.0 8) (Int (pos key.place)) ≡ true = subst (λ v. is_value v (Int (pos key.place)) ≡ true) (sym it.2) (itself (Int (pos key.place))) in
    let here = in_has (has_key (changes_at.at key)) (db 9) it.0 row.0 (and_from _ _ parts.0 (and_from _ _ (and_parts _ _ parts.1).0 (and_from _ _ placed refl))) in
    empty (rows_at (changes_at.at key) (db 9)) it.0 here none
  where
    empty : (rows : List Raw) (r : Raw) → Has rows r → only (reads changes_at) rows ≡ None → ⊥
    empty [] r has is = has
    empty (s ∷ []) r has is = cc
    empty (s ∷ t ∷ rows) r has is = cc

-- ---- the change at a place

-- the row of a change that was found at a place
found_row : (db : Trees) (key : PlaceKey) (n : ℕ) → Some (Some n) ≡ row_at changes_at db key → (r : Raw) × Has (db 9) r × (has_key (changes_at.at key) r ≡ true) × (number_in (column r 0) ≡ Some n)
found_row db key n found = by (rows_at (changes_at.at key) (db 9)) refl found
  where
    by : (rows : List Raw) → rows_at (changes_at.at key) (db 9) ≡ rows → Some (Some n) ≡ only (reads changes_at) rows → (r : Raw) × Has (db 9) r × (has_key (changes_at.at key) r ≡ true) × (number_in (column r 0) ≡ Some n)
    by [] are is = absurd (cc)
    by (r ∷ []) are is =
        let it = has_in (has_key (changes_at.at key)) (db 9) r (subst (λ l. Has l r) (sym are) (inl refl)) in
        (r, it.0, it.1, passed (is_within most_changes) (number_in (column r 0)) n (sym (same_Some _ _ is)))
    by (r ∷ s ∷ rows) are is = absurd (let e = same_Some _ _ is in cc)

-- it stands there, or the tables are those of no history
pub found_stands : (db : Trees) (key : PlaceKey) (n : ℕ) → Some (Some n) ≡ row_at changes_at db key → IsDamaged (tables_at db) ⊎ IsAtPlace (tables_at db).row (branch_of key) key.place n
found_stands db key n found =
    let r = found_row db key n found in
    elim (row_stands db key r.0 r.1 r.2) [
      | inl damaged ↦ inl damaged
      | inr stands ↦ inr (subst (IsAtPlace (tables_at db).row (branch_of key) key.place) (same_Some _ _ (sym stands.is ∙ r.3)) stands.at)
    ]

-- a change whose header is not so is not at the place
pub not_there : (db : Trees) (key : BranchKey) (place n : ℕ) (found : Option (Option Header)) → found ≡ row_at headers db n → (IsHeaderAt found key.project key.branch place → ⊥)
    → IsAtPlace (tables_at db).row key place n → ⊥
not_there db key place n found is other at = by found refl
  where
    stands : told a_header found ≡ Some (APart (AHeader at.header))
    stands = ap (told a_header) is ∙ at.stands

    by : (o : Option (Option Header)) → found ≡ o → ⊥
    by None none = let bad = sym (ap (told a_header) none) ∙ stands in cc
    by (Some None) odd = let bad = sym (ap (told a_header) odd) ∙ stands in cc
    by (Some (Some h)) some =
        let part : AHeader h ≡ AHeader at.header = (let e = sym (ap (told a_header) some) ∙ stands in cc) in
        let same : h ≡ at.header = cc in
        other (h, some, ap (λ (x : Header). x.project) same ∙ at.project, ap (λ (x : Header). x.branch) same ∙ at.branch, ap (λ (x : Header). x.place) same ∙ at.placed)

-- the change that was found at a place has no such header
pub elsewhere_damaged : (db : Trees) (key : PlaceKey) (n : ℕ) (found : Option (Option Header)) → Some (Some n) ≡ row_at changes_at db key → found ≡ row_at headers db n
    → (IsHeaderAt found key.project key.branch key.place → ⊥) → IsDamaged (tables_at db)
elsewhere_damaged db key n found at is other =
    elim (found_stands db key n at) [ inl damaged ↦ damaged | inr stands ↦ absurd (not_there db (branch_of key) key.place n found is other stands) ]

-- it has no patch set, or an odd one
pub without_damaged : (db : Trees) (key : PlaceKey) (n : ℕ) → 0 < key.place → Some (Some n) ≡ row_at changes_at db key → TellsCurrent n db None → IsDamaged (tables_at db)
without_damaged db key n low at (inl damaged) = damaged
without_damaged db key n low at (inr none) =
    elim (found_stands db key n at) [
      | inl damaged ↦ damaged
      | inr stands ↦ (λ h history view. let read = reading_of h history in has_current read.0 h db (branch_of key) key.place n history read.1 (view read.0 read.1) low stands none)
    ]

-- ---- the last place

greatest_row : (db : Trees) (key : BranchKey) (n m : ℕ) → HasGreatest change_places 8 key db (Some (Some (n, m))) → (r : Raw) × Has (db 9) r × (has_key (changes_at.at (place_key key m)) r ≡ true) × (number_in (column r 0) ≡ Some n)
greatest_row db key n m great =
    let r = great.0 in
    let row = has_in (has_key (change_places.at key)) (db 9) r great.1.among in
    let read = both_are _ _ n m (sym great.2) in
    let p = and_parts _ _ row.1 in
    let place = at_number (column r 8) m (passed is_small _ m read.1) in
    (r, row.0, and_from _ _ p.0 (and_from _ _ (and_parts _ _ p.1).0 (and_from _ _ place refl)), passed (is_within most_changes) _ n read.0)

-- the change with the greatest place stands there, or the tables are those of no history
pub last_stands : (db : Trees) (key : BranchKey) (n m : ℕ) → HasGreatest change_places 8 key db (Some (Some (n, m))) → IsDamaged (tables_at db) ⊎ IsAtPlace (tables_at db).row key m n
last_stands db key n m great =
    let r = greatest_row db key n m great in
    elim (row_stands db (place_key key m) r.0 r.1 r.2) [
      | inl damaged ↦ inl damaged
      | inr stands ↦ inr (subst (IsAtPlace (tables_at db).row key m) (same_Some _ _ (sym stands.is ∙ r.3)) stands.at)
    ]

pub last_place_is : (db : Trees) (key : BranchKey) (n m : ℕ) → HasGreatest change_places 8 key db (Some (Some (n, m))) → IsLastPlace key db m
last_place_is db key n m great = record {
  above = none_above db key n m great;
  there = λ low. elim (last_stands db key n m great) [ inl damaged ↦ inl damaged | inr at ↦ inr (n, at) ];
}

pub no_last_place : (db : Trees) (key : BranchKey) → HasGreatest change_places 8 key db None → IsLastPlace key db 0
no_last_place db key none = record { above = none_at_all db key 0 none; there = λ low. absurd (omega (arith, low)) }

headless : (a b s : Option (List ℕ)) (o : Option ℕ) (t : Option State) (w : Option Bool) (p u : Option ℕ) → p ≡ None → headed a b s o t w p u ≡ None
headless a b s o t w p u is = rw is (by a b s o t w)
  where
    by : (a b s : Option (List ℕ)) (o : Option ℕ) (t : Option State) (w : Option Bool) → headed a b s o t w None u ≡ None
    by None b s o t w = refl
    by (Some a) None s o t w = refl
    by (Some a) (Some b) None o t w = refl
    by (Some a) (Some b) (Some s) None t w = refl
    by (Some a) (Some b) (Some s) (Some o) None w = refl
    by (Some a) (Some b) (Some s) (Some o) (Some t) None = refl
    by (Some a) (Some b) (Some s) (Some o) (Some t) (Some w) = refl

-- the greatest place is odd
pub last_joined_damaged : (db : Trees) (key : BranchKey) → HasGreatest change_places 8 key db (Some None) → IsDamaged (tables_at db)
last_joined_damaged db key great =
    let r = great.0 in
    let row = has_in (has_key (change_places.at key)) (db 9) r great.1.among in
    elim (both_missing (where_is (is_within most_changes) (number_in (column r 0))) (where_is is_small (number_in (column r 8))) (sym great.2)) [
      | inl number ↦ unkeyed db 9 header_keyed (inr (inr (inr (inr (inr (inl refl)))))) r row.0 (no_number (is_within most_changes) (number_in (column r 0)) number)
      | inr place ↦
          let n = place.0 in
          let here : has_key (headers.at n) r ≡ true = and_from _ _ (at_number (column r 0) n (passed (is_within most_changes) (number_in (column r 0)) n place.1)) refl in
          odd_damage (tables_at db) (PartKey n TheHeader) (ap (told a_header) (odd_at headers db n r row.0 here (headless _ _ _ _ _ _ _ _ place.2)))
    ]

-- the change with the greatest place has no such header
pub last_elsewhere : (db : Trees) (key : BranchKey) (n m : ℕ) (found : Option (Option Header)) → HasGreatest change_places 8 key db (Some (Some (n, m))) → found ≡ row_at headers db n
    → (IsHeaderAt found key.project key.branch m → ⊥) → IsDamaged (tables_at db)
last_elsewhere db key n m found great is other =
    elim (last_stands db key n m great) [ inl damaged ↦ damaged | inr at ↦ absurd (not_there db key m n found is other at) ]

-- ---- patch sets

-- the greatest number of a patch set is odd
pub last_set_damaged : (db : Trees) (n : ℕ) → HasGreatest patch_numbers 2 n db (Some None) → IsDamaged (tables_at db)
last_set_damaged db n great =
    let r = great.0 in
    unkeyed db 11 patch_keyed (inr (inr (inr (inr (inr (inr (inl refl))))))) r (has_in (has_key (patch_numbers.at n)) (db 11) r great.1.among).0
    (and_false (has_change r) _ (no_number (is_within most_patches) (number_in (column r 2)) (sym great.2)))

-- the patch set with the greatest number is not one that reads
pub set_damaged : (db : Trees) (n q : ℕ) (found : Option (Option PatchRow)) → HasGreatest patch_numbers 2 n db (Some (Some q)) → found ≡ row_at patches db (n, q) → ((x : PatchRow) → found ≡ Some (Some x) → ⊥) → IsDamaged (tables_at db)
set_damaged db n q found great is other =
    let r = great.0 in
    let row = has_in (has_key (patch_numbers.at n)) (db 11) r great.1.among in
    let number = passed (is_within most_patches) (number_in (column r 2)) q (sym great.2) in
    let here : has_key (patches.at (n, q)) r ≡ true = and_from _ _ (and_parts _ _ row.1).0 (and_from _ _ (at_number (column r 2) q number) refl) in
    elim (only_with (reads patches) (rows_at (patches.at (n, q)) (db 11)) r (in_has (has_key (patches.at (n, q))) (db 11) r row.0 here)) [
      | inl odd ↦ odd_damage (tables_at db) (PartKey n (PatchOf q)) (ap (told (λ x. APart (APatch x))) odd)
      | inr so ↦ by (reads patches r) refl so
    ]
  where
    by : (o : Option PatchRow) → reads patches great.0 ≡ o → row_at patches db (n, q) ≡ Some (reads patches great.0) → IsDamaged (tables_at db)
    by None none so = odd_damage (tables_at db) (PartKey n (PatchOf q)) (ap (told (λ x. APart (APatch x))) (so ∙ ap (λ x. Some x) none))
    by (Some x) some so = absurd (other x (is ∙ so ∙ ap (λ x. Some x) some))

-- a change at a place that was told, or damage
pub tells_at : (db : Trees) (key : PlaceKey) (found : Option JoinedChange) → IfTold db (IsOnlyAt key db) found → TellsAt key db found
tells_at db key None damaged = λ last n le at. damaged
tells_at db key (Some change) is = is

-- the patch set with the greatest number, as it reads
pub current_told : (db : Trees) (n q : ℕ) (found : Option (Option PatchRow)) (o : Option PatchRow) → HasGreatest patch_numbers 2 n db (Some (Some q)) → found ≡ row_at patches db (n, q) → found ≡ Some o → IfTold db (IsCurrent (tables_at db).row n) o
current_told db n q found None great at is = set_damaged db n q found great at (λ x some. let bad = sym is ∙ some in cc)
current_told db n q found (Some x) great at is = current_is db n q found x great at is

-- a patch set with the commit has no key
pub sent_odd : (base : Base) (db : Trees) → AreFound sent db base.commit None → IsDamaged (tables_at db)
sent_odd base db odd =
    let it = any_has _ _ odd in
    let r = it.0 in
    let row = has_in (has_key (sent.at base.commit)) (db 11) r it.1 in
    unkeyed db 11 patch_keyed (inr (inr (inr (inr (inr (inr (inl refl))))))) r row.0 (by (where_is (is_within most_changes) (number_in (column r 1))) (where_is (is_within most_patches) (number_in (column r 2))) it.2)
  where
    by : (a b : Option ℕ) → not (is_some (both a b)) ≡ true → (is_some a && is_some b) ≡ false
    by None b is = refl
    by (Some x) None is = refl
    by (Some x) (Some y) is = absurd (cc)
