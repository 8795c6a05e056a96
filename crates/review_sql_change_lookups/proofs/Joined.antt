-- The changes that joined a branch, in the order of their places.
use Rattle.std.proofs.lemmas.List.Elements.{All-push, Contains-append_left, Contains-push}
use Rattle.std.{proofs.lemmas.List.Quantifiers.all_pairs_push, specs.List.Contains, specs.Prelude.AllPairs}
use Rattle.review_sql_tables.proofs.Common.{◌≡◌, ◌∙◌, ◌<◌, ◌≤◌, ◌+◌, ◌++◌, ℕ, pos, List, [], ◌∷◌, true, Option, Some, None, All, Ok, refl, sym, ap, subst, inl, inr, ⊎_elim, arith, and_from, and_parts, cases_lt, same_Some, State, Has, Trees, Raw, column, Int, has_key, is_value, HasGreatest, Looks, only, reads, row_at, rows_at}
use Rattle.review_core_rules.specs.{Parts.AHeader, declared.rows.Header.Header, declared.rows.PatchRow.PatchRow}
use Rattle.review_machine_rows.proofs.Joins.{one_joined, one_place}
use Rattle.review_machine_rows.specs.Known.{IsBefore, IsJoinedAt}
use Rattle.review_sql_records.proofs.Common.{is_within, most_changes, JoinedChange, look_both, look_on, itself, HaveJoined, IsAtPlace, APart, BranchKey, PlaceKey, one_number, passed}
use Rattle.review_sql_change_records.specs.Forms.{change_places, changes_at, headers}
use Rattle.review_sql_lookups.proofs.Telling.{has_in, in_has}
use Rattle.review_sql_lookups.specs.{Loads.IfTold, Tables.tables_at, Tables.told}
use Rattle.review_sql_change_lookups.proofs.Joining.{among}
use Rattle.review_sql_change_lookups.specs.Joins.{IsHeaderAt, IsLastPlace, IsOnlyAt, NoneAbove, TellsAt, TellsCurrent, branch_of}

-- ---- one place

-- what the one row reads as is what each of the rows reads as
one_row : {X : Type 0} (read : Raw → Option X) (rows : List Raw) (r : Raw) (x : X) → only read rows ≡ Some (Some x) → Has rows r → read r ≡ Some x
one_row read [] r x is has = absurd has
one_row read (s ∷ []) r x is (inl same) = ap read same ∙ same_Some _ _ is
one_row read (s ∷ []) r x is (inr has) = absurd has
one_row read (s ∷ t ∷ rows) r x is has = absurd (let e = same_Some _ _ is in cc)

-- no other change is at a place where one was found
only_one : (db : Trees) (key : PlaceKey) (n : ℕ) → row_at changes_at db key ≡ Some (Some n) → (m : ℕ) → IsAtPlace (tables_at db).row (branch_of key) key.place m → m ≡ n
only_one db key n found m at =
    let it = among db (branch_of key) key.place m at in
    let row = has_in (has_key (change_places.at (branch_of key))) (db 9) it.0 it.1 in
    let parts = and_parts _ _ row.1 in
    let placed : is_value (column it.0 8) (Int (pos key.place)) ≡ true = subst (λ v. is_value v (Int (pos key.place)) ≡ true) (sym it.2) (itself (Int (pos key.place))) in
    let here = in_has (has_key (changes_at.at key)) (db 9) it.0 row.0 (and_from _ _ parts.0 (and_from _ _ (and_parts _ _ parts.1).0 (and_from _ _ placed refl))) in
    let read = one_row (reads changes_at) (rows_at (changes_at.at key) (db 9)) it.0 n found here in
    sym (one_number (column it.0 0) n m (passed (is_within most_changes) _ n read) (and_parts _ _ it.3).0)

-- the change that was found at a place, with its current patch set
pub joined_is : (db : Trees) (key : PlaceKey) (n : ℕ) (found : Option (Option Header)) (sets : Option PatchRow) (patch : PatchRow) → IsHeaderAt found key.project key.branch key.place → sets ≡ Some patch → 0 < key.place
    → Some (Some n) ≡ row_at changes_at db key → found ≡ row_at headers db n → TellsCurrent n db sets → IsOnlyAt key db (record { change = n; commit = patch.commit })
joined_is db key n found sets patch head known low at stands knows = record {
  here = record {
    from_one = low;
    at = record { header = head.0; stands = ap (told (λ x. APart (AHeader x))) (sym stands ∙ head.1); project = head.2; branch = head.3; placed = head.4 };
    patch = patch;
    current = subst (TellsCurrent n db) known knows;
    commit = refl;
  };
  only = only_one db key n (sym at);
}

-- ---- one place after the other

-- the changes that joined the branch at the places up to a last one
pub record AreUpTo (key : BranchKey) (db : Trees) (last : ℕ) (joined : List JoinedChange) : Type 0 where
  pub each : All (λ j. (place : ℕ) × IsJoinedAt (tables_at db).row key place j) joined
  pub all : (place : ℕ) (j : JoinedChange) → place ≤ last → IsJoinedAt (tables_at db).row key place j → Contains joined j
  pub below : All (λ j. (place : ℕ) → IsAtPlace (tables_at db).row key place j.change → place ≤ last) joined
  pub ordered : AllPairs (IsBefore (tables_at db).row key) joined

none_yet : (key : BranchKey) (db : Trees) → AreUpTo key db 0 []
none_yet key db = record {
  each = λ i d below. absurd (omega (arith, below));
  all = λ place j least is. let low = is.from_one in absurd (omega (arith, least, low));
  below = λ i d below. absurd (omega (arith, below));
  ordered = λ i j d less below. absurd (omega (arith, below));
}

-- the key of the next place
abbrev pub next_key : BranchKey → ℕ → PlaceKey
next_key key last = record { project = key.project; branch = key.branch; place = last + 1 }

up_more : (key : BranchKey) (db : Trees) (last : ℕ) (joined : List JoinedChange) (j : JoinedChange) → AreUpTo key db last joined → IsOnlyAt (next_key key last) db j → AreUpTo key db (last + 1) (joined ++ j ∷ [])
up_more key db last joined j so is =
    let row = (tables_at db).row in
    record {
      each = All-push (λ x. (place : ℕ) × IsJoinedAt row key place x) joined j so.each (last + 1, is.here);
      all = λ place x least at. ⊎_elim
          (λ (early : place < last + 1). Contains-append_left joined (j ∷ []) x (so.all place x (omega (arith, early)) at))
          (λ (late : last + 1 ≤ place).
          let same : place ≡ last + 1 = omega (arith, least, late) in
          let there = subst (λ p. IsAtPlace row key p x.change) same at.at in
          subst (Contains (joined ++ j ∷ [])) (sym (one_joined row key place (last + 1) x j at is.here (is.only x.change there))) (Contains-push joined j))
          (cases_lt place (last + 1));
      below = All-push (λ x. (place : ℕ) → IsAtPlace row key place x.change → place ≤ last + 1) joined j
          (λ i d lt place at. let least = so.below i d lt place at in omega (arith, least))
          (λ place at. let same = one_place row key j.change place (last + 1) at is.here.at in omega (arith, same));
      ordered = all_pairs_push (IsBefore row key) joined j so.ordered
          (λ i d lt p q before at.
          let least = so.below i d lt p before in
          let same = one_place row key j.change q (last + 1) at is.here.at in
          inl (omega (arith, least, same)));
    }

all_joined : (key : BranchKey) (db : Trees) (last count : ℕ) (joined : List JoinedChange) → last ≤ count → NoneAbove key last db → AreUpTo key db count joined → HaveJoined (tables_at db).row key joined
all_joined key db last count joined enough none so = record {
  each = so.each;
  all = λ place j at. ⊎_elim
      (λ (late : last < place). absurd (none place j.change late at.at))
      (λ (early : place ≤ last). so.all place j (omega (arith, early, enough)) at)
      (cases_lt last place);
  ordered = so.ordered;
}

-- ---- look-ups one after the other

-- the changes of so many places were found
abbrev pub SoFar : BranchKey → ℕ → ℕ → List JoinedChange → Trees → Unit {0} → Type 0
SoFar key last count joined db u = IsLastPlace key db last × AreUpTo key db count joined

-- what is known of one, and of all
abbrev pub KnowsOne : PlaceKey → Trees → Option JoinedChange → Type 0
KnowsOne key db found = TellsAt key db found

abbrev pub KnowsAll : BranchKey → Trees → Option (List JoinedChange) → Type 0
KnowsAll key db found = IfTold db (HaveJoined (tables_at db).row key) found

-- what is found of the greatest place
abbrev pub KnowsLast : BranchKey → Trees → Option (Option (ℕ × ℕ)) → Type 0
KnowsLast key db found = HasGreatest change_places 8 key db found

pub joined_first : (key : BranchKey) (last : ℕ) (found : Option (Option (ℕ × ℕ))) (o : Option ℕ) (a b : State) → o ≡ Some last → ((db : Trees) → HasGreatest change_places 8 key db found → IfTold db (IsLastPlace key db) o)
    → Looks (KnowsLast key) a b (Ok found) → Looks (SoFar key last 0 []) a b (Ok (tt {0}))
joined_first key last found o a b is knows looks =
    look_on (KnowsLast key) (SoFar key last 0 []) a b found (Ok (tt {0})) looks (λ db h. (subst (IfTold db (IsLastPlace key db)) is (knows db h), none_yet key db))

pub joined_more : (key : BranchKey) (last count : ℕ) (at : PlaceKey) (old new : List JoinedChange) (j : JoinedChange) (a b c : State) → at ≡ next_key key count → new ≡ old ++ j ∷ []
    → Looks (SoFar key last count old) a b (Ok (tt {0})) → Looks (KnowsOne at) b c (Ok (Some j)) → Looks (SoFar key last (count + 1) new) a c (Ok (tt {0}))
joined_more key last count at old new j a b c is now so one =
    look_on _ (SoFar key last (count + 1) new) a c (Some j) (Ok (tt {0})) (look_both (SoFar key last count old) (KnowsOne at) a b c (tt {0}) (Ok (Some j)) so one)
    (λ db h. (h.0.0, subst (AreUpTo key db (count + 1)) (sym now) (up_more key db count old j h.0.1 (subst (λ k. IsOnlyAt k db j) is h.1))))

pub joined_all : (key : BranchKey) (last count : ℕ) (joined : List JoinedChange) (a b : State) → last ≤ count → Looks (SoFar key last count joined) a b (Ok (tt {0})) → Looks (KnowsAll key) a b (Ok (Some joined))
joined_all key last count joined a b enough so =
    look_on (SoFar key last count joined) (KnowsAll key) a b (tt {0}) (Ok (Some joined)) so (λ db h. all_joined key db last count joined enough h.0.above h.1)

-- at a place none is told
pub joined_none : (key : BranchKey) (last count : ℕ) (at : PlaceKey) (old : List JoinedChange) (a b c : State) → at ≡ next_key key count → count < last
    → Looks (SoFar key last count old) a b (Ok (tt {0})) → Looks (KnowsOne at) b c (Ok None) → Looks (KnowsAll key) a c (Ok None)
joined_none key last count at old a b c is more so one =
    look_on _ (KnowsAll key) a c None (Ok None) (look_both (SoFar key last count old) (KnowsOne at) a b c (tt {0}) (Ok None) so one)
    (λ db h. elim (h.0.0.there (omega (arith, more))) [
      | inl damaged ↦ damaged
      | inr stands ↦ subst (λ k. KnowsOne k db None) is h.1 last stands.0 (omega (arith, more)) stands.1
    ])
