-- Texts cut into their fields: equal texts have equal fields.
use Rattle.std.proofs.Common.{append_assoc, ◌≡◌, ℕ, List, [], ◌∷◌, ◌++◌, length, refl, sym, ap, ◌∙◌, arith, flat_map}
use Rattle.review_names.proofs.Numerals.{Plain, plain_numeral, numeral-injective}
use Rattle.{review_names.specs.Numerals.numeral, review_words.specs.Texts.field, review_words.specs.Texts.text_of}

split_colon : (xs ys s t : List ℕ) → Plain xs → Plain ys → xs ++ 58 ∷ s ≡ ys ++ 58 ∷ t → (xs ≡ ys) × (s ≡ t)
split_colon [] [] s t p q e = (refl, cc)
split_colon [] (y ∷ ys) s t p q e = let same : 58 ≡ y = cc in absurd (q.0 (sym same))
split_colon (x ∷ xs) [] s t p q e = let same : x ≡ 58 = cc in absurd (p.0 same)
split_colon (x ∷ xs) (y ∷ ys) s t p q e =
    let head : x ≡ y = cc in
    let tail : xs ++ 58 ∷ s ≡ ys ++ 58 ∷ t = cc in
    let rest = split_colon xs ys s t p.1 q.1 tail in
    ((λ i. head i ∷ rest.0 i), rest.1)

split_length : (xs ys s t : List ℕ) → length xs ≡ length ys → xs ++ s ≡ ys ++ t → (xs ≡ ys) × (s ≡ t)
split_length [] [] s t n e = (refl, e)
split_length [] (y ∷ ys) s t n e = absurd (omega arith)
split_length (x ∷ xs) [] s t n e = absurd (omega arith)
split_length (x ∷ xs) (y ∷ ys) s t n e =
    let head : x ≡ y = cc in
    let tail : xs ++ s ≡ ys ++ t = cc in
    let rest = split_length xs ys s t (omega arith) tail in
    ((λ i. head i ∷ rest.0 i), rest.1)

pub field_shape : (a x : List ℕ) → field a ++ x ≡ numeral (length a) ++ 58 ∷ (a ++ 44 ∷ x)
unfolding field
field_shape a x =
    append_assoc (numeral (length a)) (58 ∷ (a ++ 44 ∷ [])) x ∙ ap (λ l. numeral (length a) ++ 58 ∷ l) (append_assoc a (44 ∷ []) x)

-- the first field and the rest
field_split : (a b x y : List ℕ) → field a ++ x ≡ field b ++ y → (a ≡ b) × (x ≡ y)
field_split a b x y e =
    let p = split_colon (numeral (length a)) (numeral (length b)) (a ++ 44 ∷ x) (b ++ 44 ∷ y) (plain_numeral (length a)) (plain_numeral (length b))
    (sym (field_shape a x) ∙ e ∙ field_shape b y) in
    let q = split_length a b (44 ∷ x) (44 ∷ y) (numeral-injective (length a) (length b) p.0) p.1 in
    (q.0, let r = q.1 in cc)

not_empty : (xs s : List ℕ) → xs ++ 58 ∷ s ≡ [] → ⊥
not_empty [] s e = cc
not_empty (x ∷ xs) s e = cc

pub field_not_empty : (a x : List ℕ) → field a ++ x ≡ [] → ⊥
field_not_empty a x e = not_empty (numeral (length a)) (a ++ 44 ∷ x) (sym (field_shape a x) ∙ e)

pub text_of-injective : (fs gs : List (List ℕ)) → text_of fs ≡ text_of gs → fs ≡ gs
unfolding text_of
text_of-injective [] [] e = refl
text_of-injective [] (g ∷ gs) e = absurd (field_not_empty g (flat_map field gs) (sym e))
text_of-injective (f ∷ fs) [] e = absurd (field_not_empty f (flat_map field fs) e)
text_of-injective (f ∷ fs) (g ∷ gs) e =
    let p = field_split f g (flat_map field fs) (flat_map field gs) e in
    let rest = text_of-injective fs gs p.1 in
    λ i. p.0 i ∷ rest i
