-- Which change sent a commit, and which of them is merged with it.
use Rattle.std.proofs.{Common.MatchBool, lemmas.List.Elements.All-more}
use Rattle.review_chain.specs.declared.links.Standing.TheVariants.{InBranch, PatchSet, Nowhere}
use Rattle.review_sql_tables.proofs.Common.{◌≡◌, ◌∙◌, ◌<◌, ◌≤◌, ◌+◌, ℕ, List, [], ◌∷◌, Bool, true, false, Option, Some, None, option_map, All, map, get_or, take, length, Result, Ok, Err, is_some, refl, sym, ap, subst, inl, inr, and_from, and_parts, take_all, recursion_from_All, All-from_recursion, All-permutation, IsPermutation-sym, same_Some, AllByRecursion, State, Error, all_map, all_unmap, Has, Trees, has_key, Looks, AreFound, reads, row_at, rows_at}
use Rattle.review_core_rules.specs.Parts.{TheHeader, PatchOf, AHeader, APatch, PartRow}
use Rattle.review_core_rules.specs.declared.rows.{Header.Header, PatchRow.PatchRow}
use Rattle.review_machine_rows.specs.Known.{IsInBranch, IsMergedWith, IsSender, IsSentBy, StandsAs}
use Rattle.review_sql_records.proofs.Common.{look_on, look_both, IsBaseOrNot, APart, PartKey, IsDamaged, Base}
use Rattle.review_sql_change_records.specs.{Forms.headers, Forms.patches, Forms.sent, Laws.same_bytes}
use Rattle.review_sql_change_records.specs.inner.Words.{sent_by_key, sent_is}
use Rattle.review_sql_lookups.proofs.Telling.{has_in, in_has, odd_damage, own_bytes, stored_row}
use Rattle.review_sql_lookups.specs.{Loads.IfTold, Tables.tables_at, Tables.told}
use Rattle.review_sql_change_lookups.specs.Joins.{Examines, HasSent, IsFoundSent, IsLastSet, IsOutside, IsSentIn, IsSentWith, TellsIf}

-- a row of a kind that was told is one that was found
pub part_found : {X : Type 0} (kind : X → PartRow) (found : Option (Option X)) (row : PartRow) → told (λ x. APart (kind x)) found ≡ Some (APart row) → (x : X) × (kind x ≡ row) × (found ≡ Some (Some x))
part_found kind None row is = absurd (cc)
part_found kind (Some None) row is = absurd (let e = same_Some _ _ is in cc)
part_found kind (Some (Some x)) row is = (x, (let e = same_Some _ _ is in cc), refl)

pub header_from : (x y : Header) → AHeader x ≡ AHeader y → x ≡ y
header_from x y is = cc

patch_from : (x y : PatchRow) → APatch x ≡ APatch y → x ≡ y
patch_from x y is = cc

-- the rows that a sender has
header_of : (db : Trees) (base : Base) (n : ℕ) (s : IsSender (tables_at db).row base n) → row_at headers db n ≡ Some (Some s.header)
header_of db base n s = let it = part_found AHeader (row_at headers db n) (AHeader s.header) s.stands in it.2 ∙ ap (λ x. Some (Some x)) (header_from it.0 s.header it.1)

patch_of : (db : Trees) (base : Base) (n : ℕ) (s : IsSender (tables_at db).row base n) → row_at patches db (n, s.number) ≡ Some (Some s.patch)
patch_of db base n s = let it = part_found APatch (row_at patches db (n, s.number)) (APatch s.patch) s.sent in it.2 ∙ ap (λ x. Some (Some x)) (patch_from it.0 s.patch it.1)

header_is : (x y : Header) → Some (Some x) ≡ Some (Some y) → x ≡ y
header_is x y e = same_Some _ _ (same_Some _ _ e)

patch_is : (x y : PatchRow) → Some (Some x) ≡ Some (Some y) → x ≡ y
patch_is x y e = same_Some _ _ (same_Some _ _ e)

module _ (merged : Bool) (base : Base) (n p : ℕ) (db : Trees) where
  -- the rows that a sender has, where they are looked up
  pub no_header : row_at headers db n ≡ None → HasSent merged base (n, p) db → ⊥
  no_header none s = let e = sym none ∙ header_of db base n s.0 in cc

  pub no_patch : row_at patches db (n, p) ≡ None → HasSent merged base (n, p) db → ⊥
  no_patch none s = let e = sym none ∙ (ap (λ k. row_at patches db (n, k)) (sym s.1) ∙ patch_of db base n s.0) in cc

  -- nor has one whose header is odd
  pub odd_header : row_at headers db n ≡ Some None → HasSent merged base (n, p) db → ⊥
  odd_header odd s = let e = sym odd ∙ header_of db base n s.0 in cc

  -- nor one for another branch
  pub elsewhere : (h : Header) → row_at headers db n ≡ Some (Some h) → (h.project ≡ base.project → h.branch ≡ base.branch → ⊥) → HasSent merged base (n, p) db → ⊥
  elsewhere h stands other s =
      let same = header_is s.0.header h (sym (header_of db base n s.0) ∙ stands) in
      other (ap (λ (x : Header). x.project) (sym same) ∙ s.0.project) (ap (λ (x : Header). x.branch) (sym same) ∙ s.0.branch)

  has_sent : (h : Header) (x : PatchRow) → row_at headers db n ≡ Some (Some h) → row_at patches db (n, p) ≡ Some (Some x) → IsSentWith merged base h x → HasSent merged base (n, p) db
  has_sent h x stands row is =
      let one = and_parts _ _ is.0 in
      let two = and_parts _ _ one.1 in (
        record {
          header = h;
          stands = ap (told (λ x. APart (AHeader x))) stands;
          project = same_bytes h.project base.project one.0;
          branch = same_bytes h.branch base.branch two.0;
          number = p;
          patch = x;
          sent = ap (told (λ x. APart (APatch x))) row;
          commit = same_bytes x.commit base.commit two.1;
        },
        refl,
        is.1,
      )

  sent_with : (h : Header) (x : PatchRow) → row_at headers db n ≡ Some (Some h) → row_at patches db (n, p) ≡ Some (Some x) → HasSent merged base (n, p) db → IsSentWith merged base h x
  sent_with h x stands row s =
      let header : s.0.header ≡ h = header_is s.0.header h (sym (header_of db base n s.0) ∙ stands) in
      let patch : s.0.patch ≡ x = patch_is s.0.patch x (sym (patch_of db base n s.0) ∙ (ap (λ k. row_at patches db (n, k)) s.1 ∙ row)) in (
        and_from _ _ (own_bytes h.project base.project (ap (λ (x : Header). x.project) (sym header) ∙ s.0.project))
            (and_from _ _ (own_bytes h.branch base.branch (ap (λ (x : Header). x.branch) (sym header) ∙ s.0.branch)) (own_bytes x.commit base.commit (ap (λ (x : PatchRow). x.commit) (sym patch) ∙ s.0.commit))),
        λ yes. ap (λ (x : Header). x.state) (sym header) ∙ s.2 yes,
      )

  -- whether it has sent the commit is whether its rows say so
  pub sent_told : (h : Header) (x : PatchRow) (b : Bool) → row_at headers db n ≡ Some (Some h) → row_at patches db (n, p) ≡ Some (Some x) → MatchBool b (IsSentWith merged base h x) (IsSentWith merged base h x → ⊥) → TellsIf db (HasSent merged base (n, p) db) (Some b)
  sent_told h x true stands row is = has_sent h x stands row is
  sent_told h x false stands row is = λ s. is (sent_with h x stands row s)

-- one that has sent the commit, and whether its patch set is the last
pub sent_and_last : (merged : Bool) (base : Base) (e : ℕ × ℕ) (db : Trees) (last : Option Bool) → merged ≡ true → HasSent merged base e db → TellsIf db (IsLastSet e db) last → Examines merged base e db last
sent_and_last merged base e db None to_be has is = is
sent_and_last merged base e db (Some true) to_be has is = (has, λ yes. is)
sent_and_last merged base e db (Some false) to_be has is = λ so. is (so.1 to_be)

-- what a look-up found is so in other words
pub looks_so : {X : Type 0} (F G : Trees → X → Type 0) (a b : State) (r : Result X Error) → Looks F a b r → ((db : Trees) (x : X) → F db x → G db x) → Looks G a b r
looks_so F G a b (Ok x) it told = look_on F G a b x (Ok x) it (λ db h. told db x h)
looks_so F G a b (Err e) it told = record { found = λ _ _ _. tt; kept = it.kept; survives = it.survives }

-- ---- all that have the commit

abbrev pub NotSent : Bool → Base → Trees → ℕ × ℕ → Type 0
NotSent merged base db e = IsSentIn merged base e db → ⊥

pub all_has : {X : Type 0} (P : X → Type 0) (xs : List X) (x : X) → AllByRecursion P xs → Has xs x → P x
all_has P [] x all has = absurd has
all_has P (y ∷ xs) x all (inl same) = subst P (sym same) all.0
all_has P (y ∷ xs) x all (inr has) = all_has P xs x all.1 has

-- none of those that have the commit has sent it so, so no change has
pub unsent : (merged : Bool) (base : Base) (db : Trees) (items : List (ℕ × ℕ)) → AreFound sent db base.commit (Some items) → All (NotSent merged base db) items → (e : ℕ × ℕ) → IsSentIn merged base e db → ⊥
unsent merged base db items found none e it_sent =
    let n = e.0 in
    let s = it_sent.0.0 in
    let Q : Option (ℕ × ℕ) → Type 0 = λ o. (e : ℕ × ℕ) × (o ≡ Some e) × NotSent merged base db e in
    let each : AllByRecursion Q (map Some items) = all_map Q Some items (some_each items (recursion_from_All (NotSent merged base db) items none)) in
    let back = all_unmap Q (reads sent) (rows_at (sent.at base.commit) (db 11)) (recursion_from_All Q _ (All-permutation Q _ _ (IsPermutation-sym _ _ found) (All-from_recursion Q _ each))) in
    let row = stored_row (reads patches) (rows_at (patches.at (n, s.number)) (db 11)) s.patch (patch_of db base n s) in
    let at = has_in (has_key (patches.at (n, s.number))) (db 11) row.0 row.1 in
    let listed = in_has (has_key (sent.at base.commit)) (db 11) row.0 at.0 (subst (λ commit. has_key (sent.at commit) row.0 ≡ true) s.commit (sent_by_key (n, s.number) s.patch row.0 at.1 row.2)) in
    let it = all_has (λ r. Q (reads sent r)) (rows_at (sent.at base.commit) (db 11)) row.0 back listed in
    let key : it.0 ≡ (n, s.number) = sent_is (n, s.number) it.0 row.0 at.1 it.1 in
    subst (NotSent merged base db) key it.2 ((s, refl, it_sent.0.2), λ yes m less. it_sent.1 yes m (subst (λ k. k < m) it_sent.0.1 less))
  where
    some_each : (items : List (ℕ × ℕ)) → AllByRecursion (NotSent merged base db) items → AllByRecursion (λ e. (f : ℕ × ℕ) × (Some e ≡ Some f) × NotSent merged base db f) items
    some_each [] all = tt
    some_each (e ∷ items) all = ((e, refl, all.0), some_each items all.1)

-- what is known of so many of them
abbrev pub Seen : Bool → Base → List (ℕ × ℕ) → ℕ → Trees → Unit {0} → Type 0
Seen merged base items i db u = AreFound sent db base.commit (Some items) × All (NotSent merged base db) (take i items)

-- what is found of all of them, where none is odd
abbrev pub KnowsSent : Bool → Base → Trees → Option (Option (ℕ × ℕ)) → Type 0
KnowsSent merged base db found = IfTold db (IsFoundSent merged base db) found

module _ (merged : Bool) (base : Base) (items : List (ℕ × ℕ)) (i : ℕ) (e : ℕ × ℕ) (a b c : State) (below : i < length items) (is : e ≡ get_or items i e) (seen : Looks (Seen merged base items i) a b (Ok (tt {0}))) where
  pub seen_more : Looks (Examines merged base e) b c (Ok (Some false)) → Looks (Seen merged base items (i + 1)) a c (Ok (tt {0}))
  seen_more other =
      look_on _ (Seen merged base items (i + 1)) a c (Some false) (Ok (tt {0})) (look_both (Seen merged base items i) (Examines merged base e) a b c (tt {0}) (Ok (Some false)) seen other)
      (λ db h. (h.0.0, All-more (NotSent merged base db) items i e below h.0.1 (subst (NotSent merged base db) is h.1)))

  -- one of them has sent it so
  pub seen_sent : Looks (Examines merged base e) b c (Ok (Some true)) → Looks (KnowsSent merged base) a c (Ok (Some (Some e)))
  seen_sent sent_so =
      look_on _ (KnowsSent merged base) a c (Some true) (Ok (Some (Some e))) (look_both (Seen merged base items i) (Examines merged base e) a b c (tt {0}) (Ok (Some true)) seen sent_so) (λ db h. h.1)

-- none of them has
pub seen_all : (merged : Bool) (base : Base) (items : List (ℕ × ℕ)) (i : ℕ) (a b : State) → length items ≤ i → Looks (Seen merged base items i) a b (Ok (tt {0})) → Looks (KnowsSent merged base) a b (Ok (Some None))
seen_all merged base items i a b whole seen =
    look_on (Seen merged base items i) (KnowsSent merged base) a b (tt {0}) (Ok (Some None)) seen (λ db h. unsent merged base db items h.0 (subst (λ l. All (NotSent merged base db) l) (take_all i items whole) h.1))

-- ---- what was found

pub sender_told : (base : Base) (db : Trees) (found : Option (ℕ × ℕ)) → IsFoundSent false base db found → IsSentBy (tables_at db).row base (option_map (λ e. e.0) found)
sender_told base db (Some e) sent = sent.0.0
sender_told base db None none = λ n s. none (n, s.number) ((s, refl, λ yes. absurd (cc)), λ yes. absurd (cc))

merged_as : (base : Base) (db : Trees) (e : ℕ × ℕ) → IsSentIn true base e db → IsMergedWith (tables_at db).row base e.0
merged_as base db e sent =
    let s = sent.0.0 in
    let later = λ (m : ℕ) (less : s.number < m). sent.1 refl m (subst (λ k. k < m) sent.0.1 less) in
    record {
      header = s.header;
      stands = s.stands;
      project = s.project;
      branch = s.branch;
      merged = sent.0.2 refl;
      patch = s.patch;
      current = record { number = s.number; sent = s.sent; later = later };
      commit = s.commit;
    }

unmerged : (base : Base) (db : Trees) → IsFoundSent true base db None → (n : ℕ) → IsMergedWith (tables_at db).row base n → ⊥
unmerged base db none n m =
    none (n, m.current.number) (
      (
        record { header = m.header; stands = m.stands; project = m.project; branch = m.branch; number = m.current.number; patch = m.patch; sent = m.current.sent; commit = m.commit },
        refl,
        λ yes. m.merged,
      ),
      λ yes. m.current.later,
    )

module _ (base : Base) (db : Trees) where
  pub stands_merged_so : (found : Option (ℕ × ℕ)) → is_some found ≡ true → IsFoundSent true base db found → StandsAs (tables_at db).row base InBranch
  stands_merged_so (Some e) some sent = inr (e.0, merged_as base db e sent)
  stands_merged_so None some sent = absurd (cc)

  pub is_outside : IsBaseOrNot (tables_at db).row base false → IsFoundSent true base db None → IsInBranch (tables_at db).row base → ⊥
  is_outside not_one none (inl is) = not_one is.0 is.1
  is_outside not_one none (inr it) = unmerged base db none it.0 it.1

  pub stands_outside : IsOutside base db → (found : Option (ℕ × ℕ)) → IsFoundSent false base db found → (e : ℕ × ℕ) → found ≡ Some e → StandsAs (tables_at db).row base (PatchSet e.0 e.1)
  stands_outside outside found sent e is = let it = subst (IsFoundSent false base db) is sent in (outside, it.0.0, it.0.1)

  pub stands_nowhere : IsOutside base db → (found : Option (ℕ × ℕ)) → IsFoundSent false base db found → found ≡ None → StandsAs (tables_at db).row base Nowhere
  stands_nowhere outside found sent is = (outside, sender_told base db None (subst (IsFoundSent false base db) is sent))

-- what was told of each of them is damage
pub seen_damaged : (merged : Bool) (base : Base) (items : List (ℕ × ℕ)) (i : ℕ) (e : ℕ × ℕ) (a b c : State) → Looks (Seen merged base items i) a b (Ok (tt {0})) → Looks (Examines merged base e) b c (Ok None) → Looks (KnowsSent merged base) a c (Ok None)
seen_damaged merged base items i e a b c seen odd =
    look_on _ (KnowsSent merged base) a c None (Ok None) (look_both (Seen merged base items i) (Examines merged base e) a b c (tt {0}) (Ok None) seen odd) (λ db h. h.1)

-- ---- odd rows

pub odd_header_damaged : (db : Trees) (n : ℕ) → row_at headers db n ≡ Some None → IsDamaged (tables_at db)
odd_header_damaged db n odd = odd_damage (tables_at db) (PartKey n TheHeader) (ap (told (λ x. APart (AHeader x))) odd)

pub odd_patch_damaged : (db : Trees) (n p : ℕ) → row_at patches db (n, p) ≡ Some None → IsDamaged (tables_at db)
odd_patch_damaged db n p odd = odd_damage (tables_at db) (PartKey n (PatchOf p)) (ap (told (λ x. APart (APatch x))) odd)
