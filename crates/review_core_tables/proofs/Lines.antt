-- Reasons are lines of text.
use lib.ListN.{length-map}
use Rattle.std.proofs.Common.{◌≡◌, ◌≤◌, ◌<◌, ◌+◌, ℕ, List, [], ◌∷◌, ◌++◌, length, map, Bool, true, not, ◌&&◌, refl, sym, ◌∙◌, arith, codes, length-append}
use Rattle.std.proofs.lemmas.Bool.{and_parts, and_from, Decides.nat_tests}
use Rattle.std.proofs.lemmas.Int.Digits.{all_below_base_digits_of, length-digits_of-le}
use Rattle.std.specs.{Char.is_ascii_control, Int.Digits.digits_of, List.list_all, List.AllByRecursion, Prelude.nat_le}
use Rattle.review_names.specs.Forms.{is_label, is_line}
use Rattle.review_names.specs.Laws.{LabelsAreOfForm, begins_with_letter, has_letters_after_hyphens, is_label_character}
use Rattle.review_names.specs.Numerals.{numeral, shown_digits}

abbrev pub shown : ℕ → Bool
shown c = not (is_ascii_control c)

pub line_from : (s : List ℕ) → 1 ≤ length s → length s ≤ 512 → list_all shown s ≡ true → is_line s ≡ true
unfolding is_line
line_from s low high all = let test : (nat_le 1 (length s) && nat_le (length s) 512) ≡ true = grind (arith, nat_tests, low, high) in and_from (nat_le 1 (length s) && nat_le (length s) 512) (list_all shown s) test all

all_append : (p : ℕ → Bool) (xs ys : List ℕ) → list_all p xs ≡ true → list_all p ys ≡ true → list_all p (xs ++ ys) ≡ true
all_append p [] ys h k = k
all_append p (x ∷ xs) ys h k = let e = and_parts (p x) (list_all p xs) h in and_from (p x) (list_all p (xs ++ ys)) e.0 (all_append p xs ys e.1 k)

all_more : (p q : ℕ → Bool) → ((c : ℕ) → p c ≡ true → q c ≡ true) → (xs : List ℕ) → list_all p xs ≡ true → list_all q xs ≡ true
all_more p q f [] h = h
all_more p q f (x ∷ xs) h = let e = and_parts (p x) (list_all p xs) h in and_from (q x) (list_all q xs) (f x e.0) (all_more p q f xs e.1)

digit_shown : (d : ℕ) → d < 10 → shown (48 + d) ≡ true
digit_shown d h = grind (arith, nat_tests, h)

shown_map : (ds : List ℕ) → AllByRecursion (λ d. d < 10) ds → list_all shown (map (λ x. 48 + x) ds) ≡ true
shown_map [] h = refl
shown_map (d ∷ ds) h = and_from (shown (48 + d)) (list_all shown (map (λ x. 48 + x) ds)) (digit_shown d h.0) (shown_map ds h.1)

all_digits : (ds : List ℕ) → AllByRecursion (λ d. d < 10) ds → list_all shown (shown_digits ds) ≡ true
all_digits [] h = refl
all_digits (d ∷ ds) h = shown_map (d ∷ ds) h

few_digits : (ds : List ℕ) → length ds ≤ 7 → length (shown_digits ds) ≤ 7
few_digits [] h = omega arith
few_digits (d ∷ ds) h = omega (arith, h, length-map (d ∷ ds) (λ x. 48 + x))

numeral_shown : (n : ℕ) → list_all shown (numeral n) ≡ true
unfolding numeral
numeral_shown n = all_digits (digits_of 10 n) (all_below_base_digits_of 10 n (omega arith))

numeral_short : (n : ℕ) → n ≤ 1000000 → length (numeral n) ≤ 7
unfolding numeral
numeral_short n h = few_digits (digits_of 10 n) (length-digits_of-le 10 7 n (omega arith) (omega (arith, h)))

-- what an account does
pub account_line : (n : ℕ) (does : List ℕ) → n ≤ 1000000 → length does ≤ 100 → list_all shown does ≡ true → is_line (codes "account " ++ (numeral n ++ does)) ≡ true
account_line n does high short all =
    let long : length (numeral n ++ does) ≡ length (numeral n) + length does = length-append (numeral n) does in
    let whole : length (codes "account " ++ (numeral n ++ does)) ≡ 8 + length (numeral n ++ does) = length-append (codes "account ") (numeral n ++ does) in
    line_from (codes "account " ++ (numeral n ++ does)) (omega (arith, whole)) (omega (arith, whole, long, short, numeral_short n high))
    (all_append shown (codes "account ") (numeral n ++ does) refl (all_append shown (numeral n) does (numeral_shown n) all))

character_shown : (c : ℕ) → is_label_character c ≡ true → shown c ≡ true
character_shown c h = grind (arith, nat_tests, h)

-- a label on which a vote was lost
pub label_line : LabelsAreOfForm → (l : List ℕ) → is_label l ≡ true → is_line (codes "vote on " ++ (l ++ codes " was not copied")) ≡ true
label_line form l h =
    let p = and_parts (nat_le (length l) 40) (begins_with_letter l && (list_all is_label_character l && has_letters_after_hyphens l)) (sym (form l) ∙ h) in
    let q = and_parts (begins_with_letter l) (list_all is_label_character l && has_letters_after_hyphens l) p.1 in
    let r = and_parts (list_all is_label_character l) (has_letters_after_hyphens l) q.1 in
    let short : length l ≤ 40 = grind (arith, nat_tests, p.0) in
    let long : length (l ++ codes " was not copied") ≡ length l + 15 = length-append l (codes " was not copied") in
    let whole : length (codes "vote on " ++ (l ++ codes " was not copied")) ≡ 8 + length (l ++ codes " was not copied") = length-append (codes "vote on ") (l ++ codes " was not copied") in
    line_from (codes "vote on " ++ (l ++ codes " was not copied")) (omega (arith, whole)) (omega (arith, whole, long, short))
    (all_append shown (codes "vote on ") (l ++ codes " was not copied") refl
    (all_append shown l (codes " was not copied") (all_more is_label_character shown character_shown l r.0) refl))
