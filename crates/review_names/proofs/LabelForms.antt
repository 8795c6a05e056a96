-- The form of a label's name.
use Rattle.std.proofs.Common.{◌≡◌, ℕ, List, [], ◌∷◌, length, Bool, true, false, not, ◌&&◌, ◌||◌, ◌==◌, refl, sym, ap, ◌∙◌, subst, eqb-true}
use Rattle.std.{proofs.Math.Bool.and_assoc, specs.Char.is_ascii_alphabetic, specs.Char.is_ascii_alphanumeric}
use Rattle.std.specs.{Int.is_in_range, List.list_all, Prelude.nat_le}
use Rattle.review_names.specs.Forms.{goes_on, is_label}
use Rattle.review_names.specs.Laws.{is_label_character, begins_with_letter, has_letters_after_hyphens}

-- a letter is a letter or a digit, and no hyphen
among : (d u l : Bool) → (u || l) ≡ true → ((d || u) || l) ≡ true
among true u l e = refl
among false u l e = e

letter_among : (c : ℕ) → is_ascii_alphabetic c ≡ true → is_ascii_alphanumeric c ≡ true
letter_among c e = among (is_in_range 48 57 c) (is_in_range 65 90 c) (is_in_range 97 122 c) e

no_hyphen : (c : ℕ) (b : Bool) → (c == 45) ≡ b → is_ascii_alphabetic c ≡ true → (c == 45) ≡ false
no_hyphen c false e letter = e
no_hyphen c true e letter = let wrong : false ≡ true = subst (λ d. is_ascii_alphabetic d ≡ true) (eqb-true c 45 e) letter in absurd (cc)

crossed : (x l a h : Bool) → (x && (l && (a && h))) ≡ ((x && a) && (l && h))
crossed false l a h = refl
crossed true true a h = refl
crossed true false true h = refl
crossed true false false h = refl

-- what follows a character, which is a hyphen or not
behind : (x b : Bool) (cs : List ℕ) (l a h : Bool) → goes_on false cs ≡ (a && h) → goes_on true cs ≡ (l && (a && h)) → (x && goes_on b cs) ≡ ((x && a) && ((not b || l) && h))
behind x true cs l a h free bound = ap (λ g. x && g) bound ∙ crossed x l a h
behind x false cs l a h free bound = ap (λ g. x && g) free ∙ sym (and_assoc x a h)

first_letter : (c : ℕ) (b : Bool) → is_ascii_alphabetic c ≡ b → (l a h g : Bool) → g ≡ (a && h) → (b && g) ≡ (b && ((is_label_character c && a) && ((not (c == 45) || l) && h)))
first_letter c false e l a h g is = refl
first_letter c true e l a h g is = let among = letter_among c e in let no = no_hyphen c (c == 45) refl e in rw (among, no) is

to_end : (s : List ℕ) →
    (goes_on false s ≡ (list_all is_label_character s && has_letters_after_hyphens s)) × (goes_on true s ≡ (begins_with_letter s && (list_all is_label_character s && has_letters_after_hyphens s)))
to_end [] = (refl, refl)
to_end (c ∷ cs) =
    let rest = to_end cs in
    let all = list_all is_label_character cs in
    let after = has_letters_after_hyphens cs in (
      behind (is_label_character c) (c == 45) cs (begins_with_letter cs) all after rest.0 rest.1,
      first_letter c (is_ascii_alphabetic c) refl (begins_with_letter cs) all after (goes_on false cs) rest.0,
    )

pub label_is : (s : List ℕ) → is_label s ≡ (nat_le (length s) 40 && (begins_with_letter s && (list_all is_label_character s && has_letters_after_hyphens s)))
unfolding is_label
label_is s = ap (λ b. nat_le (length s) 40 && b) (to_end s).1
