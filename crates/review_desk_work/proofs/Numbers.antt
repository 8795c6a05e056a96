-- The change whose number a text is.
use Rattle.std.proofs.Common.{◌≡◌, ◌<◌, ℕ, List, Bool, true, false, Option, Some, None, arith, refl, subst}
use Rattle.std.{proofs.lemmas.Bool.Decides.nat_tests, specs.Prelude.option_and_then, specs.Prelude.if◌then◌else◌}
use Rattle.review_names.proofs.Numerals.{number_back, number_shown}
use Rattle.review_names.specs.{Forms.is_within, Forms.most_changes, Numerals.number_of, Numerals.numeral}
use Rattle.review_desk_work.specs.Jobs.{change_numbered, change_of}

low : (n : ℕ) → is_within most_changes n ≡ true → n < 18446744073709551616
unfolding is_within
low n within = grind (arith, nat_tests, within)

pub change_read : (n : ℕ) (text : List ℕ) → numeral n ≡ text → is_within most_changes n ≡ true → change_of text ≡ Some n
unfolding change_of
change_read n text shown within =
    let read : number_of text ≡ Some n = subst (λ t. number_of t ≡ Some n) shown (number_back n (low n within)) in
    rw (read, within) refl

out_of_range : (b : Bool) (n : ℕ) → is_within most_changes n ≡ b → (is_within most_changes n ≡ true → ⊥) → (if b then Some n else None) ≡ None
out_of_range true n is not = absurd (not is)
out_of_range false n is not = refl

none_numbered : (found : Option ℕ) (text : List ℕ) → number_of text ≡ found → ((n : ℕ) → is_within most_changes n ≡ true → numeral n ≡ text → ⊥) → option_and_then change_numbered found ≡ None
none_numbered None text is none = refl
none_numbered (Some n) text is none = out_of_range (is_within most_changes n) n refl (λ within. none n within (number_shown n text is))

pub no_change_read : (text : List ℕ) → ((n : ℕ) → is_within most_changes n ≡ true → numeral n ≡ text → ⊥) → change_of text ≡ None
unfolding change_of
no_change_read text none = none_numbered (number_of text) text refl none
