-- Fields cut off their text one by one.
use Rattle.std.proofs.Common.{◌≡◌, ℕ, suc, ◌+◌, ◌*◌, ◌-◌, ◌<◌, List, [], ◌∷◌, ◌++◌, append_assoc, append-nil, length, map, take, drop, refl, sym, ap, ◌∙◌, arith, cond, Option, Some, None, true, false, length-append, slice_index, take_at, nat_le, nat_lt, ◌&&◌, ◌==◌, flat_map}
use Rattle.std.proofs.lemmas.Bool.Decides.{nat_tests}
use Rattle.std.proofs.lemmas.Int.Digits.{all_below_base_digits_of, number_digits_of, number_after_ge}
use Rattle.std.proofs.lemmas.List.{nil_from_length}
use Rattle.std.specs.Int.Digits.{digits_of, number_from_digits, number_from_digits_after}
use Rattle.std.specs.List.{AllByRecursion}
use Rattle.review_names.specs.Numerals.{shown_digits, numeral}
use Rattle.review_words.specs.Texts.{field, text_of}
use Rattle.review_words_texts.proofs.Cutting.{field_shape, field_not_empty}
use Rattle.review_words_texts.specs.{Reading.AreShort, inner.Words.taken, inner.Words.split_after}

shown_split : (ds : List ℕ) → AllByRecursion (λ d. d < 10) ds → (m : ℕ) (t : List ℕ) → number_from_digits_after 10 m ds < 1000000000
    → split_after m (map (λ x. 48 + x) ds ++ 58 ∷ t) ≡ taken (number_from_digits_after 10 m ds) t
shown_split [] a m t h = refl
shown_split (d ∷ ds) a m t h =
    let low = a.0 in
    let big = number_after_ge 10 (m * 10 + d) ds (omega arith) in
    let e : (48 + d) - 48 ≡ d = omega arith in
    let rest = map (λ x. 48 + x) ds ++ 58 ∷ t in
    let colon : ((48 + d) == 58) ≡ false = grind (arith, nat_tests, low) in
    let digit : (nat_le 48 (48 + d) && nat_le (48 + d) 57 && nat_lt m 1000000000) ≡ true = grind (arith, nat_tests, low, big, h) in
    ap (λ b. cond b (taken m rest) (cond (nat_le 48 (48 + d) && nat_le (48 + d) 57 && nat_lt m 1000000000) (split_after (m * 10 + ((48 + d) - 48)) rest) None)) colon
    ∙ (ap (λ b. cond b (split_after (m * 10 + ((48 + d) - 48)) rest) None) digit
    ∙ (ap (λ k. split_after (m * 10 + k) rest) e ∙ shown_split ds a.1 (m * 10 + d) t h))

digits_split : (ds : List ℕ) → AllByRecursion (λ d. d < 10) ds → (t : List ℕ) → number_from_digits 10 ds < 1000000000 → split_after 0 (shown_digits ds ++ 58 ∷ t) ≡ taken (number_from_digits 10 ds) t
digits_split [] a t h = refl
digits_split (d ∷ ds) a t h = shown_split (d ∷ ds) a 0 t h

numeral_split : (n : ℕ) (t : List ℕ) → n < 1000000000 → split_after 0 (numeral n ++ 58 ∷ t) ≡ taken n t
unfolding numeral
numeral_split n t h = let e = number_digits_of 10 n (omega arith) in
    digits_split (digits_of 10 n) (all_below_base_digits_of 10 n (omega arith)) t (omega (arith, e, h)) ∙ ap (λ k. taken k t) e

comma_there : (a rest : List ℕ) → slice_index (a ++ 44 ∷ rest) (length a) ≡ 44
comma_there [] rest = refl
comma_there (x ∷ a) rest = comma_there a rest

after_comma : (a rest : List ℕ) → drop (length a + 1) (a ++ 44 ∷ rest) ≡ rest
after_comma [] rest = refl
after_comma (x ∷ a) rest = let e : suc (length a) + 1 ≡ suc (length a + 1) = omega arith in ap (λ n. drop n (x ∷ (a ++ 44 ∷ rest))) e ∙ after_comma a rest

taken_when : (n : ℕ) (cs a b : List ℕ) → (nat_lt n (length cs) && (slice_index cs n == 44)) ≡ true → take n cs ≡ a → drop (n + 1) cs ≡ b → taken n cs ≡ Some (a, b)
taken_when n cs a b test before after = ap (λ t. cond t (Some (take n cs, drop (n + 1) cs)) None) test ∙ (λ i. Some (before i, after i))

taken_field : (a rest : List ℕ) → taken (length a) (a ++ 44 ∷ rest) ≡ Some (a, rest)
taken_field a rest =
    let long = length-append a (44 ∷ rest) in
    let comma = comma_there a rest in
    taken_when (length a) (a ++ 44 ∷ rest) a rest (grind (arith, nat_tests, long, comma)) (take_at a (44 ∷ rest) (length a) refl) (after_comma a rest)

-- a field is split off, whatever follows
field_split_off : (a rest : List ℕ) → length a < 1000000000 → split_after 0 (field a ++ rest) ≡ Some (a, rest)
field_split_off a rest h = ap (split_after 0) (field_shape a rest) ∙ (numeral_split (length a) (a ++ 44 ∷ rest) h ∙ taken_field a rest)

-- of fields, those that are cut off and those of which the rest is the text
pub record Left (fs done : List (List ℕ)) (rest : List ℕ) : Type 0 where
  pub fields : List (List ℕ)
  pub short : AreShort fields
  pub text : text_of fields ≡ rest
  pub all : done ++ fields ≡ fs

next_of : (fields : List (List ℕ)) (rest : List ℕ) → AreShort fields → text_of fields ≡ rest → 0 < length rest
    → (f : List ℕ) × (gs : List (List ℕ)) × (fields ≡ f ∷ gs) × AreShort gs × (split_after 0 rest ≡ Some (f, text_of gs))
unfolding text_of
next_of [] rest short e some = let none : length rest ≡ 0 = ap length (sym e) in absurd (omega (arith, none, some))
next_of (f ∷ gs) rest short e some = (f, gs, refl, short.1, ap (split_after 0) (sym e) ∙ field_split_off f (flat_map field gs) short.0)

abbrev first_part : Option (List ℕ × List ℕ) → List ℕ
first_part (Some p) = p.0
first_part None = []

abbrev second_part : Option (List ℕ × List ℕ) → List ℕ
second_part (Some p) = p.1
second_part None = []

same_split : (f t a b : List ℕ) → ◌≡◌ {A = Option (List ℕ × List ℕ)} (Some (f, t)) (Some (a, b)) → (f ≡ a) × (t ≡ b)
same_split f t a b e = (ap first_part e, ap second_part e)

no_split : (p : List ℕ × List ℕ) → ◌≡◌ {A = Option (List ℕ × List ℕ)} (Some p) None → ⊥
no_split p e = cc

pub one_cut : (fs done : List (List ℕ)) (rest a b : List ℕ) → 0 < length rest → split_after 0 rest ≡ Some (a, b) → Left fs done rest → Left fs (done ++ a ∷ []) b
one_cut fs done rest a b some e l =
    let next = next_of l.fields rest l.short l.text some in
    let same = same_split next.0 (text_of next.1) a b (sym next.4 ∙ e) in
    record { fields = next.1; short = next.3; text = same.1; all = append_assoc done (a ∷ []) next.1 ∙ (ap (λ x. done ++ x ∷ next.1) (sym same.0) ∙ (ap (λ l. done ++ l) (sym next.2) ∙ l.all)) }

pub none_refused : (fs done : List (List ℕ)) (rest : List ℕ) → 0 < length rest → split_after 0 rest ≡ None → Left fs done rest → ⊥
none_refused fs done rest some e l =
    let next = next_of l.fields rest l.short l.text some in
    no_split (next.0, text_of next.1) (sym next.4 ∙ e)

nothing_left : (fields : List (List ℕ)) → text_of fields ≡ [] → fields ≡ []
unfolding text_of
nothing_left [] e = refl
nothing_left (f ∷ gs) e = absurd (field_not_empty f (flat_map field gs) e)

pub all_cut : (fs done : List (List ℕ)) (rest : List ℕ) → length rest ≡ 0 → Left fs done rest → done ≡ fs
all_cut fs done rest e l = sym (append-nil done) ∙ (ap (λ x. done ++ x) (sym (nothing_left l.fields (l.text ∙ nil_from_length rest e))) ∙ l.all)
