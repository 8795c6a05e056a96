-- Rows that moved to the table of a later version read there as they did.
use Rattle.std.proofs.lemmas.{Bool.not-false, List.Sorted.list_any-IsPermutation}
use Rattle.sqlite_keyed.proofs.ListLemmas.{filter_none, none_from_any}
use Rattle.{sqlite_rules.specs.Cast.as_text, sqlite_trees.proofs.ListLemmas.filter_same as filter_as}
use Rattle.review_sql_tables.proofs.ByTree.{all_weaker as all_of}
use Rattle.review_sql_tables.proofs.Common.{◌≡◌, ◌≢◌, ◌∙◌, ◌&&◌, ℕ, pos, suc, Bool, true, false, not, List, [], ◌∷◌, Option, Some, None, option_map, map, filter, length, get_or, refl, sym, ap, subst, subst₂, inl, inr, and_from, and_parts, cases_Bool, length-map, length_permutation, same_Some, AllByRecursion, list_any, IsPermutation, one_permutation, IsPermutation-filter, filter-map, filter_same, cast, Integer, Raw, column, Value, Int, Text, number_in, text_in, has_key, is_value, AreMoved, columns_of, with_first_epoch, without_parent, Search, only, reads, rows_at}
use Rattle.review_sql_tables.proofs.{Found.any_map, Keys.same_int, Meaning.cast_int}
use Rattle.review_sql_records.proofs.Common.{itself, StoredFile, answers, earlier_answers, earlier_key, first_epoch, file_without_parent, projects, answer_keyed, earlier_answer_keyed, project_keyed, number_is, Rest}
use Rattle.review_sql_records.specs.Forms.{answered, stored_file, first_projects, stored_parent, is_natural, is_text}
use Rattle.review_sql_records.specs.Laws.{no_text}

-- the column at a place of a row is that before it of its columns
behind : (r : Raw) (at : ℕ) → column (columns_of r) at ≡ column r (suc at)
behind [] at = refl
behind (v ∷ r) at = refl

text_stays : (v : Value) → is_text v ≡ true → as_text v ≡ v
text_stays (Text t) is = refl
text_stays _ is = absurd (cc)

reads_text : (v : Value) (t : List ℕ) → text_in v ≡ Some t → as_text v ≡ v
reads_text (Text s) t is = refl
reads_text _ t is = absurd (cc)

reads_number : (v : Value) (n : ℕ) → number_in v ≡ Some n → cast Integer v ≡ v
reads_number v n is = let same = number_is v n is in subst (λ w. cast Integer w ≡ w) (sym same) (cast_int (pos n))

natural_stays : (v : Value) → is_natural v ≡ true → cast Integer v ≡ v
natural_stays (Int (pos n)) is = cast_int (pos n)
natural_stays _ is = absurd (cc)

any_as : {X : Type 0} (p q : X → Bool) (xs : List X) → AllByRecursion (λ x. p x ≡ q x) xs → list_any p xs ≡ list_any q xs
any_as p q [] all = refl
any_as p q (x ∷ xs) all = rw (all.0, any_as p q xs all.1) refl

all_pass : (keyed : Raw → Bool) (rows : List Raw) → list_any (λ r. not (keyed r)) rows ≡ false → AllByRecursion (λ r. keyed r ≡ true) rows
all_pass keyed rows none = all_of {P = λ r. not (keyed r) ≡ false} {Q = λ r. keyed r ≡ true} rows (λ r is. not-false (keyed r) is) (none_from_any (λ r. not (keyed r)) rows none)

every : {Q : Raw → Type 0} (rows : List Raw) → ((r : Raw) → Q r) → AllByRecursion Q rows
every [] f = tt
every (r ∷ rows) f = (f r, every rows f)

-- ---- whatever moved

module _ {A X : Type 0} (s t : Search A X) (made : Raw → Raw) (old new : List Raw) (moved : AreMoved made old new) where
  -- a test of columns that no row passes as it is made
  pub none_pass : (test : Raw → Bool) → AllByRecursion (λ r. test (made r) ≡ false) old → list_any (λ r. test (columns_of r)) new ≡ false
  none_pass test none = sym (any_map test columns_of new) ∙ (sym (list_any-IsPermutation test (map made old) (map columns_of new) moved) ∙ (any_map test made old ∙ (any_as _ (λ r. false) old none ∙ no old)))
    where
      no : (rows : List Raw) → list_any (λ r. false) rows ≡ false
      no [] = refl
      no (r ∷ rows) = no rows

  pub count_moved : length new ≡ length old
  count_moved = sym (length-map new columns_of) ∙ (length_permutation _ _ moved ∙ length-map old made)

  module _ (keyed : list_any (λ r. not (s.keyed r)) old ≡ false) where
    pub still_keyed : (test : Raw → Bool) → ((r : Raw) → s.keyed r ≡ true → test (made r) ≡ true) → ((r : Raw) → test (columns_of r) ≡ t.keyed r) → list_any (λ r. not (t.keyed r)) new ≡ false
    still_keyed test before after =
        any_as _ _ new (every {Q = λ r. not (t.keyed r) ≡ not (test (columns_of r))} new (λ r. ap not (sym (after r))))
        ∙ none_pass (λ columns. not (test columns)) (all_of {P = λ r. s.keyed r ≡ true} {Q = λ r. not (test (made r)) ≡ false} old (λ r is. ap not (before r is)) (all_pass s.keyed old keyed))

    module _ (a : A) (named : Raw → Bool) (before : (r : Raw) → s.keyed r ≡ true → named (made r) ≡ has_key (s.at a) r) (after : (r : Raw) → named (columns_of r) ≡ has_key (t.at a) r)
        (reads_on : (r q : Raw) (x : X) → columns_of q ≡ made r → reads s r ≡ Some x → reads t q ≡ Some x) where
      of_key : IsPermutation (map made (rows_at (s.at a) old)) (map columns_of (rows_at (t.at a) new))
      of_key =
          let was : filter (λ r. named (made r)) old ≡ rows_at (s.at a) old = filter_as _ _ old (all_of {P = λ r. s.keyed r ≡ true} {Q = λ r. named (made r) ≡ has_key (s.at a) r} old before (all_pass s.keyed old keyed)) in
          let is : filter (λ r. named (columns_of r)) new ≡ rows_at (t.at a) new = filter_same _ _ after new in
          subst₂ IsPermutation (filter-map named made old ∙ ap (map made) was) (filter-map named columns_of new ∙ ap (map columns_of) is) (IsPermutation-filter named _ _ moved)

      only_on : (xs ys : List Raw) → IsPermutation (map made xs) (map columns_of ys) → (found : Option X) → only (reads s) xs ≡ option_map Some found → only (reads t) ys ≡ option_map Some found
      only_on [] [] same found is = is
      only_on [] (y ∷ ys) same found is = absurd (let l = length_permutation _ _ same in cc)
      only_on (x ∷ []) ys same found is = one ys (one_permutation (made x) (map columns_of ys) same)
        where
          read : (f : Option X) → Some (reads s x) ≡ option_map Some f → (v : X) × (reads s x ≡ Some v) × (f ≡ Some v)
          read None h = absurd (cc)
          read (Some v) h = (v, same_Some _ _ h, refl)

          one : (ys : List Raw) → map columns_of ys ≡ made x ∷ [] → only (reads t) ys ≡ option_map Some found
          one [] e = absurd (cc)
          one (y ∷ []) e = let it = read found is in ap Some (reads_on x y it.0 (ap (λ (l : List Raw). get_or l 0 []) e) it.1) ∙ ap (option_map Some) (sym it.2)
          one (y ∷ z ∷ ys) e = absurd (let l = ap length e in cc)
      only_on (x ∷ z ∷ xs) ys same found is = absurd (never found is)
        where
          never : (f : Option X) → Some None ≡ option_map Some f → ⊥
          never None e = cc
          never (Some v) e = let same = same_Some _ _ e in cc

      pub reads_alike : (found : Option X) → only (reads s) (rows_at (s.at a) old) ≡ option_map Some found → only (reads t) (rows_at (t.at a) new) ≡ option_map Some found
      reads_alike found is = only_on _ _ of_key found is

-- ---- projects

module _ (old new : List Raw) (moved : AreMoved without_parent old new) (keyed : list_any (λ r. not (project_keyed r)) old ≡ false) where
  project_on : (r q : Raw) (f : StoredFile) → columns_of q ≡ without_parent r → reads first_projects r ≡ Some f → reads projects q ≡ Some f
  project_on r q f same is = by (text_in (column r 2)) refl is
    where
      by : (o : Option (List ℕ)) → text_in (column r 2) ≡ o → option_map file_without_parent o ≡ Some f → reads projects q ≡ Some f
      by None e h = absurd (cc)
      by (Some t) e h =
          let file : column q 2 ≡ column r 2 = sym (behind q 1) ∙ ap (λ c. column c 1) same ∙ reads_text (column r 2) t e in
          let parent : column q 3 ≡ Text [] = sym (behind q 2) ∙ ap (λ c. column c 2) same in
          (λ i. stored_file (text_in (file i)) (stored_parent (text_in (parent i)))) ∙ rw (e, no_text) h

  pub file_moved : (p : List ℕ) (file : Option StoredFile) → only (reads first_projects) (rows_at (first_projects.at p) old) ≡ option_map Some file → only (reads projects) (rows_at (projects.at p) new) ≡ option_map Some file
  file_moved p = reads_alike first_projects projects without_parent old new moved keyed p (λ columns. is_value (column columns 0) (Text p) && true)
      (λ r is. ap (λ v. is_value v (Text p) && true) (text_stays (column r 1) is)) (λ r. ap (λ v. is_value v (Text p) && true) (behind r 0)) project_on

  pub projects_counted : length new ≡ length old
  projects_counted = count_moved first_projects projects without_parent old new moved

  pub projects_keyed : list_any (λ r. not (project_keyed r)) new ≡ false
  projects_keyed = still_keyed first_projects projects without_parent old new moved keyed (λ columns. is_text (column columns 0)) (λ r is. ap is_text (text_stays (column r 1) is) ∙ is) (λ r. ap is_text (behind r 0))

-- ---- stored requests

-- an identity is that of a stored request, by its columns
abbrev identified : ℕ → ℕ → List ℕ → Raw → Bool
identified caller epoch id columns = is_value (column columns 0) (Int (pos caller)) && (is_value (column columns 1) (Int (pos epoch)) && (is_value (column columns 2) (Text id) && true))

identified_behind : (caller epoch : ℕ) (id : List ℕ) (r : Raw) → identified caller epoch id (columns_of r) ≡ has_key (answers.at (record { caller = caller; epoch = epoch; id = id })) r
identified_behind caller epoch id r = (λ i. is_value (behind r 0 i) (Int (pos caller)) && (is_value (behind r 1 i) (Int (pos epoch)) && (is_value (behind r 2 i) (Text id) && true)))

module _ (old new : List Raw) (moved : AreMoved with_first_epoch old new) where
  -- no request has another epoch
  pub answers_of_others : (caller epoch : ℕ) (id : List ℕ) → epoch ≢ first_epoch → rows_at (answers.at (record { caller = caller; epoch = epoch; id = id })) new ≡ []
  answers_of_others caller epoch id other =
      let none = none_pass earlier_answers answers with_first_epoch old new moved (identified caller epoch id) (every {Q = λ r. identified caller epoch id (with_first_epoch r) ≡ false} old not_it) in
      filter_none _ new (none_from_any _ new (any_as _ _ new (every {Q = λ r. has_key (answers.at (record { caller = caller; epoch = epoch; id = id })) r ≡ identified caller epoch id (columns_of r)} new (λ r. sym (identified_behind caller epoch id r))) ∙ none))
    where
      not_it : (r : Raw) → identified caller epoch id (with_first_epoch r) ≡ false
      not_it r = elim (cases_Bool (identified caller epoch id (with_first_epoch r))) [
        | inl is ↦ absurd (other (same_int (Int (pos first_epoch)) epoch first_epoch (and_parts _ _ (and_parts _ _ is).1).0 (itself (Int (pos first_epoch)))))
        | inr apart ↦ apart
      ]

  module _ (keyed : list_any (λ r. not (earlier_answer_keyed r)) old ≡ false) where
    identified_before : (caller : ℕ) (id : List ℕ) (r : Raw) → earlier_answer_keyed r ≡ true → identified caller first_epoch id (with_first_epoch r) ≡ has_key (earlier_answers.at (earlier_key caller id)) r
    identified_before caller id r is =
        let parts = and_parts _ _ is in
        (λ i. is_value (natural_stays (column r 1) parts.0 i) (Int (pos caller)) && (itself (Int (pos first_epoch)) i && (is_value (text_stays (column r 2) parts.1 i) (Text id) && true)))

    answer_on : (r q : Raw) (x : Rest) → columns_of q ≡ with_first_epoch r → reads earlier_answers r ≡ Some x → reads answers q ≡ Some x
    answer_on r q x same is = by (number_in (column r 3)) (text_in (column r 4)) (text_in (column r 5)) refl refl refl is
      where
        by : (a : Option ℕ) (b c : Option (List ℕ)) → number_in (column r 3) ≡ a → text_in (column r 4) ≡ b → text_in (column r 5) ≡ c → answered a b c ≡ Some x → reads answers q ≡ Some x
        by (Some n) (Some content) (Some reply) e f g h =
            let request : column q 4 ≡ column r 3 = sym (behind q 3) ∙ ap (λ c. column c 3) same ∙ reads_number (column r 3) n e in
            let text : column q 5 ≡ column r 4 = sym (behind q 4) ∙ ap (λ c. column c 4) same ∙ reads_text (column r 4) content f in
            let told : column q 6 ≡ column r 5 = sym (behind q 5) ∙ ap (λ c. column c 5) same ∙ reads_text (column r 5) reply g in
            (λ i. answered (number_in (request i)) (text_in (text i)) (text_in (told i))) ∙ rw (e, f, g) h
        by None b c e f g h = absurd (cc)
        by (Some n) None c e f g h = absurd (cc)
        by (Some n) (Some content) None e f g h = absurd (cc)

    pub answer_moved : (caller : ℕ) (id : List ℕ) (stored : Option Rest) → only (reads earlier_answers) (rows_at (earlier_answers.at (earlier_key caller id)) old) ≡ option_map Some stored → only (reads answers) (rows_at (answers.at (earlier_key caller id)) new) ≡ option_map Some stored
    answer_moved caller id = reads_alike earlier_answers answers with_first_epoch old new moved keyed (earlier_key caller id) (identified caller first_epoch id) (identified_before caller id) (identified_behind caller first_epoch id) answer_on

    pub answers_keyed : list_any (λ r. not (answer_keyed r)) new ≡ false
    answers_keyed = still_keyed earlier_answers answers with_first_epoch old new moved keyed
        (λ columns. is_natural (column columns 0) && (is_natural (column columns 1) && is_text (column columns 2)))
        (λ r is. let parts = and_parts _ _ is in and_from _ _ (ap is_natural (natural_stays (column r 1) parts.0) ∙ parts.0) (and_from _ _ refl (ap is_text (text_stays (column r 2) parts.1) ∙ parts.1)))
        (λ r. (λ i. is_natural (behind r 0 i) && (is_natural (behind r 1 i) && is_text (behind r 2 i))))
