-- Lists by their places, and the place at which a change joined.
use Rattle.std.proofs.Common.{option_map, ◌≡◌, ℕ, ◌+◌, ◌<◌, ◌≤◌, ◌==◌, zero, suc, true, false, cond, List, [], ◌∷◌, ◌++◌, length, Some, None, refl, sym, ap, ◌∙◌, ⊎_elim, eqb-true, eq-eqb, arith, is_some, Option, subst}
use Rattle.review_machine_rows.proofs.Common.{AHeader, APart, APatch, Header, IsAtPlace, IsCurrent, IsJoinedAt, JoinedChange, Key, PartKey, PartRow, PatchOf, PatchRow, Row, at_place, cases_Bool, cases_lt}
use Rattle.review_machine_rows.specs.declared.rows.BranchKey.{BranchKey as Branch}

-- ==== lists by their places, which are counted from 1

-- nothing stands at place 0
pub nothing_at_zero : {X : Type 0} (xs : List X) → at_place xs 0 ≡ None
nothing_at_zero [] = refl
nothing_at_zero (x ∷ xs) = refl

-- nor past the end
pub past_end : {X : Type 0} (xs : List X) (n : ℕ) → length xs < n → at_place xs n ≡ None
past_end [] n lt = refl
past_end (x ∷ xs) zero lt = refl
past_end (x ∷ xs) (suc zero) lt = absurd (omega arith)
past_end (x ∷ xs) (suc (suc n)) lt = past_end xs (suc n) (omega arith)

-- but at each place up to it
pub some_at : {X : Type 0} (xs : List X) (n : ℕ) → 1 ≤ n → n ≤ length xs → is_some (at_place xs n) ≡ true
some_at [] n low high = absurd (omega arith)
some_at (x ∷ xs) zero low high = absurd (omega arith)
some_at (x ∷ xs) (suc zero) low high = refl
some_at (x ∷ xs) (suc (suc n)) low high = some_at xs (suc n) (omega arith) (omega arith)

placed_last : {X : Type 0} (xs : List X) (x : X) → at_place (xs ++ x ∷ []) (suc (length xs)) ≡ Some x
placed_last [] x = refl
placed_last (y ∷ xs) x = placed_last xs x

placed_other : {X : Type 0} (xs : List X) (x : X) (n : ℕ) → (n ≡ suc (length xs) → ⊥) → at_place (xs ++ x ∷ []) n ≡ at_place xs n
placed_other [] x (suc zero) ne = absurd (ne refl)
placed_other (y ∷ xs) x (suc (suc n)) ne = placed_other xs x (suc n) (λ e. ne (ap suc e))
placed_other [] x _ ne = refl
placed_other (y ∷ xs) x _ ne = refl

-- one more stands at the place after the last
pub placed_more : {X : Type 0} (xs : List X) (x : X) (n : ℕ) → at_place (xs ++ x ∷ []) n ≡ cond (length xs + 1 == n) (Some x) (at_place xs n)
placed_more xs x n = ⊎_elim
    (λ (t : (length xs + 1 == n) ≡ true).
    let here : n ≡ suc (length xs) = let e = eqb-true (length xs + 1) n t in omega arith in
    ap (at_place (xs ++ x ∷ [])) here ∙ (placed_last xs x ∙ sym (ap (λ b. cond b (Some x) (at_place xs n)) t)))
    (λ (f : (length xs + 1 == n) ≡ false).
    placed_other xs x n (λ e. let t = eq-eqb (length xs + 1) n (omega arith) in absurd (cc)) ∙ sym (ap (λ b. cond b (Some x) (at_place xs n)) f))
    (cases_Bool (length xs + 1 == n))

-- which is free before
pub place_is_free : {X : Type 0} (xs : List X) → at_place xs (length xs + 1) ≡ None
place_is_free xs = past_end xs (length xs + 1) (omega arith)

-- ==== a change joined a branch once: it has one place, and one current patch set

header_same : (h g : Header) → Some (APart (AHeader h)) ≡ Some (APart (AHeader g)) → h ≡ g
header_same h g is = cc

patch_same : (x y : PatchRow) → Some (APart (APatch x)) ≡ Some (APart (APatch y)) → x ≡ y
patch_same x y is = cc

module _ (row : Key → Option Row) (key : Branch) where
  pub one_place : (n p q : ℕ) → IsAtPlace row key p n → IsAtPlace row key q n → p ≡ q
  one_place n p q a b = sym a.placed ∙ ap (λ (h : Header). h.place) (header_same a.header b.header (sym a.stands ∙ b.stands)) ∙ b.placed

  not_later : (n : ℕ) (x y : PatchRow) (a : IsCurrent row n x) (b : IsCurrent row n y) → a.number < b.number → ⊥
  not_later n x y a b less = let f : None ≡ Some (APart (APatch y)) = sym (a.later b.number less) ∙ b.sent in absurd (cc)

  one_patch : (n : ℕ) (x y : PatchRow) → IsCurrent row n x → IsCurrent row n y → x ≡ y
  one_patch n x y a b =
      ⊎_elim (λ less. absurd (not_later n x y a b less))
      (λ least. ⊎_elim (λ less. absurd (not_later n y x b a less))
      (λ most. let same : a.number ≡ b.number = omega (arith, least, most) in
      patch_same x y (sym a.sent ∙ ap (λ m. row (PartKey n (PatchOf m))) same ∙ b.sent))
      (cases_lt b.number a.number))
      (cases_lt a.number b.number)

  pub one_joined : (p q : ℕ) (j k : JoinedChange) → IsJoinedAt row key p j → IsJoinedAt row key q k → j.change ≡ k.change → j ≡ k
  one_joined p q j k a b same =
      let patch = one_patch k.change a.patch b.patch (subst (λ n. IsCurrent row n a.patch) same a.current) b.current in
      let commit = sym a.commit ∙ ap (λ (x : PatchRow). x.commit) patch ∙ b.commit in
      λ i. record { change = same i; commit = commit i }

-- ==== what the row of a part says

pub unsent_from : (o : Option PatchRow) → option_map APart (option_map APatch o) ≡ None → o ≡ None
unsent_from None e = refl
unsent_from (Some x) e = absurd (cc)

pub part_from : (o p : Option PartRow) → option_map APart o ≡ option_map APart p → o ≡ p
part_from None None e = refl
part_from (Some x) (Some y) e = let same : x ≡ y = cc in ap Some same
part_from _ _ e = absurd (cc)
