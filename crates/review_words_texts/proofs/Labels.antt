-- The name of a label is a text in UTF-8.
use Rattle.std.proofs.Common.{◌≡◌, ℕ, zero, suc, ◌<◌, List, [], ◌∷◌, Bool, true, false, ◌==◌, nat_le, length, slice_index, arith, refl, None}
use Rattle.std.proofs.lemmas.{Bool.false_from_ne_true, Bool.and_parts, Bool.Decides.nat_tests, Str.IsUtf8-from_ascii}
use Rattle.std.specs.{Char.is_ascii_alphabetic, Str.IsUtf8}
use Rattle.review_names.specs.{Forms.goes_on, Forms.is_label, Laws.is_label_character}
use Rattle.review_words_texts.specs.Reading.{label_of}

label_ascii : (letter : Bool) (s : List ℕ) → goes_on letter s ≡ true → (i : ℕ) → slice_index s i < 128
label_ascii letter [] e i = omega arith
label_ascii true (c ∷ cs) e zero = let letter = (and_parts (is_ascii_alphabetic c) (goes_on false cs) e).0 in grind (arith, nat_tests, letter)
label_ascii true (c ∷ cs) e (suc i) = label_ascii false cs (and_parts (is_ascii_alphabetic c) (goes_on false cs) e).1 i
label_ascii false (c ∷ cs) e zero = let character = (and_parts (is_label_character c) (goes_on (c == 45) cs) e).0 in grind (arith, nat_tests, character)
label_ascii false (c ∷ cs) e (suc i) = label_ascii (c == 45) cs (and_parts (is_label_character c) (goes_on (c == 45) cs) e).1 i

label_utf8 : (s : List ℕ) → is_label s ≡ true → IsUtf8 s
unfolding is_label
label_utf8 s e = IsUtf8-from_ascii s (label_ascii true s (and_parts (nat_le (length s) 40) (goes_on true s) e).1)

pub no_label : (s : List ℕ) → ¬ (IsUtf8 s) → label_of s ≡ None
unfolding label_of
no_label s wrong = rw (false_from_ne_true (is_label s) (λ e. wrong (label_utf8 s e))) refl
