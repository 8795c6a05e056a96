-- Numbers in decimal, written and read.
use Rattle.std.specs.Int.Digits.{digits_of}
use Rattle.std.specs.Prelude.{ℕ, ◌+◌, ◌-◌, ◌*◌, List, [], ◌∷◌, length, map, slice_index, Option, Some, None, Bool, ◌&&◌, ◌||◌, nat_le, nat_lt, if◌then◌else◌}
use Rattle.review_names.specs.Names.{is_account_number}

-- the characters of digits; a number has at least one
abbrev pub shown_digits : List ℕ → List ℕ
shown_digits [] = 48 ∷ []
shown_digits (d ∷ ds) = map (λ x. 48 + x) (d ∷ ds)

-- a number in decimal, without leading zeros
unfoldable pub numeral : ℕ → List ℕ
numeral n = shown_digits (digits_of 10 n)

-- a reading, and a second one of what the first gave; nothing where either gives nothing
infixl 10 ◌>>=◌
-- what is read further, where something was read
abbrev pub ◌>>=◌ : {A B : Type 0} → Option A → (A → Option B) → Option B
(Some x) >>= f = f x
None >>= f = None

-- the number below 2^64 whose digits are those of n and then those of the text
abbrev pub number_after : ℕ → List ℕ → Option ℕ
number_after n [] = Some n
number_after n (c ∷ cs) = if nat_le 48 c && nat_le c 57 && nat_lt (n * 10 + (c - 48)) 18446744073709551616 then number_after (n * 10 + (c - 48)) cs else None

-- whether a text has a character, and no zero in front of others
abbrev pub begins_well : List ℕ → Bool
begins_well cs = nat_le 1 (length cs) && (nat_le (length cs) 1 || nat_lt 48 (slice_index cs 0))

-- the number below 2^64 that a text shows in decimal without leading zeros
unfoldable pub number_of : List ℕ → Option ℕ
number_of cs = if begins_well cs then number_after 0 cs else None

-- the account whose number a text is
unfoldable pub account_of : List ℕ → Option ℕ
account_of cs = do
  number ← number_of cs
  if is_account_number number then Some number else None
