-- What was found, as it reads.
use Rattle.std.proofs.lemmas.List.Sorted.{list_any-IsPermutation}
use Rattle.review_sql_tables.proofs.Common.{◌||◌, ◌≡◌, ◌∙◌, List, [], ◌∷◌, map, not, Bool, Option, Some, None, Ok, Err, Result, IfOk, refl, sym, ap, subst, arith, is_some, IsTrue, inl, inr, recursion_from_All, All-from_recursion, length_permutation, IsPermutation-map, All-permutation, list_any, AllByRecursion, IsPermutation, one_permutation, survives_then, Database, State, Error, map-map, Has, Trees, Row, HasOne, Looks, Search, shown, reads, only, row_at, rows_at, Finds, AreFound, first_as, WereRead}
use Rattle.review_sql_tables.proofs.Sequences.{clean_before, keeps_then}

-- one row of a table is shown as one row
only_shown : {X : Type 0} (f : Row → Row) (read : Row → Option X) (xs ys : List Row) → IsPermutation (map f xs) ys → only read ys ≡ only (λ r. read (f r)) xs
only_shown f read [] [] h = refl
only_shown f read [] (y ∷ ys) h = absurd (let e = length_permutation _ _ h in omega (arith, e))
only_shown f read (x ∷ []) ys h = ap (only read) (one_permutation (f x) ys h)
only_shown f read (x ∷ z ∷ xs) (y ∷ w ∷ ys) h = refl
only_shown f read (x ∷ z ∷ xs) _ h = absurd (let e = length_permutation _ _ h in omega (arith, e))

pub one_found : {A X : Type 0} (s : Search A X) (db : Trees) (a : A) (rows : List Row) → Finds s a db rows → only s.read rows ≡ row_at s db a
one_found s db a rows h = only_shown (shown s) s.read (rows_at (s.at a) (db s.tree)) rows h

pub any_map : {X Y : Type 0} (p : Y → Bool) (f : X → Y) (xs : List X) → list_any p (map f xs) ≡ list_any (λ x. p (f x)) xs
any_map p f [] = refl
any_map p f (x ∷ xs) = ap (λ b. p (f x) || b) (any_map p f xs)

pub all_found : {A X : Type 0} (s : Search A X) (db : Trees) (a : A) (rows : List Row) (found : Option (List X)) → WereRead s.read rows found → Finds s a db rows → AreFound s db a found
all_found s db a rows None odd h =
    let mine = rows_at (s.at a) (db s.tree) in
    sym (any_map (λ r. not (is_some (s.read r))) (shown s) mine) ∙ (list_any-IsPermutation (λ r. not (is_some (s.read r))) (map (shown s) mine) rows h ∙ odd)
all_found s db a rows (Some xs) all h =
    let mine = rows_at (s.at a) (db s.tree) in
    subst (IsPermutation (map (reads s) mine)) all (subst (λ l. IsPermutation l (map s.read rows)) (map-map s.read (shown s) mine) (IsPermutation-map s.read (map (shown s) mine) rows h))

-- what was found is read
pub look_on : {X Y : Type 0} (Found : Trees → X → Type 0) (Told : Trees → Y → Type 0) (a b : State) (x : X) (r : Result Y Error)
    → Looks Found a b (Ok x) → IfOk r (λ y. (db : Trees) → Found db x → Told db y) → Looks Told a b r
look_on Found Told a b x (Ok y) it told = record {
  found = λ clean on ready. let f = it.found clean on ready in (f.0, f.1, told _ f.2);
  kept = it.kept;
  survives = it.survives;
}
look_on Found Told a b x (Err e) it told = record { found = λ _ _ _. tt; kept = λ clean on. ((it.kept clean on).0, tt); survives = it.survives }

-- two queries, one after the other
pub look_both : {X Y : Type 0} (F : Trees → X → Type 0) (G : Trees → Y → Type 0) (a b c : State) (x : X) (r : Result Y Error)
    → Looks F a b (Ok x) → Looks G b c r → Looks (λ db y. F db x × G db y) a c r
look_both {X} {Y} F G a b c x r one two = record {
  found = λ clean on desk.
      let earlier = clean_before two.survives clean in
      let first = one.found earlier on desk in
      by_found r first (two.found clean (one.kept earlier on).1 (λ is_open. ap (λ (d : Database). d.schema) first.0 ∙ desk ((one.kept earlier on).0.was_open is_open)));
  kept = λ clean on.
      let first = one.kept (clean_before two.survives clean) on in
      let second = two.kept clean first.1 in
      (keeps_then a b c first.0 second.0, second.1);
  survives = survives_then a b c _ _ _ (λ _ db h. h) (λ _ db h. h) one.survives two.survives;
}
  where
    by_found : (r : Result Y Error) → (b.now ≡ a.now) × IsTrue b.is_open × F a.now.trees x → IfOk r (λ y. (c.now ≡ b.now) × IsTrue c.is_open × G b.now.trees y)
        → IfOk r (λ y. (c.now ≡ a.now) × IsTrue c.is_open × (F a.now.trees x × G a.now.trees y))
    by_found (Ok y) first second = (second.0 ∙ first.0, second.1, (first.2, subst (λ (t : Trees). G t y) (ap (λ (d : Database). d.trees) first.0) second.2))
    by_found (Err e) first second = tt

-- one of the rows that are shown
pub any_found : {A X : Type 0} (s : Search A X) (db : Trees) (a : A) (rows : List Row) → Finds s a db rows → HasOne s a db (first_as s.read rows)
any_found s db a [] h = none (rows_at (s.at a) (db s.tree)) h
  where
    none : (xs : List Row) → IsPermutation (map (shown s) xs) [] → xs ≡ []
    none [] h = refl
    none (x ∷ xs) h = absurd (let e = length_permutation _ _ h in omega (arith, e))
any_found s db a (y ∷ ys) h =
    let mine = rows_at (s.at a) (db s.tree) in
    let Shows : Row → Type 0 = λ v. (r : Row) × Has mine r × (v ≡ (shown s) r) in
    let it = (recursion_from_All Shows (y ∷ ys) (All-permutation Shows (map (shown s) mine) (y ∷ ys) h (All-from_recursion Shows _ (all_shown (shown s) mine mine (λ r has. has))))).0 in
    (it.0, it.1, ap s.read it.2)
  where
    all_shown : (f : Row → Row) (mine xs : List Row) → ((r : Row) → Has xs r → Has mine r) → AllByRecursion (λ v. (r : Row) × Has mine r × (v ≡ f r)) (map f xs)
    all_shown f mine [] within = tt
    all_shown f mine (x ∷ xs) within = ((x, within x (inl refl), refl), all_shown f mine xs (λ r has. within r (inr has)))
