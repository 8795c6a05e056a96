-- Parts of a word, and values that stand in words: numbers, votes, kinds of change.
use Rattle.std.specs.Ordering.{int_eq}
use Rattle.std.specs.Prelude.{[], ℕ, List, ◌∷◌, ◌==◌, Option, Some, None, if◌then◌else◌, option_map, ℤ, pos, neg_ℤ, nat_le, Bool, false, int_lt, int_le, codes}
use Rattle.{std.specs.Str.bytes_eq, review_names.specs.Numerals.◌>>=◌, review_names.specs.Numerals.number_of}
use Rattle.review_expr_terms.specs.declared.terms.{Comparison.Comparison, VoteValue.VoteValue}
use Rattle.review_expr_terms.specs.declared.terms.VoteValue.TheVariants as value
use Rattle.review_expr_terms.specs.declared.terms.Comparison.TheVariants as comparison

-- what follows a front, where the text begins with it
unfoldable pub behind : List ℕ → List ℕ → Option (List ℕ)
behind [] text = Some text
behind (f ∷ fs) [] = None
behind (f ∷ fs) (c ∷ cs) = if f == c then behind fs cs else None

-- a byte in front of the first of two texts
abbrev pub with_first : ℕ → List ℕ × List ℕ → List ℕ × List ℕ
with_first c halves = (c ∷ halves.0, halves.1)

-- what stands before the first of a byte in a text, and what stands behind it
unfoldable pub cut_at : ℕ → List ℕ → Option (List ℕ × List ℕ)
cut_at b [] = None
cut_at b (c ∷ cs) = if c == b then Some ([], cs) else option_map (with_first c) (cut_at b cs)

-- the text in front of a quote, where the quote ends it
abbrev pub closed : Option (List ℕ × List ℕ) → Option (List ℕ)
closed None = None
closed (Some (inner, [])) = Some inner
closed (Some (inner, c ∷ cs)) = None

-- a text without the quotes that it begins with, where it does
abbrev pub unquoted_by : Option (List ℕ × List ℕ) → List ℕ → Option (List ℕ)
unquoted_by None text = Some text
unquoted_by (Some ([], rest)) text = closed (cut_at 34 rest)
unquoted_by (Some (c ∷ cs, rest)) text = None

-- A value without its quotes: it has none, or it begins with a quote and the next one ends it.
unfoldable pub unquoted : List ℕ → Option (List ℕ)
unquoted text = unquoted_by (cut_at 34 text) text

-- a word is a key, a colon, the first in the word, and a value, the whole of which may stand in quotes
unfoldable pub key_and_value : List ℕ → Option (List ℕ × List ℕ)
key_and_value word = do
  halves ← cut_at 58 word
  value ← unquoted halves.1
  Some (halves.0, value)

-- D: 0 to 99 in decimal, without leading zeros
unfoldable pub digits_in : List ℕ → Option ℕ
digits_in text = do
  n ← number_of text
  if nat_le n 99 then Some n else None

-- a number with its sign turned
abbrev pub negative : ℕ → ℤ
negative n = neg_ℤ (pos n)

-- What a text is by its front: where it begins with the front, what the rest is; otherwise something else.
abbrev pub by_front : {A : Type 0} → Option (List ℕ) → (List ℕ → Option A) → Option A → Option A
by_front (Some rest) read other = read rest
by_front None read other = other

-- N: D, perhaps with a sign
unfoldable pub number_in : List ℕ → Option ℤ
number_in text =
    by_front (behind (codes "-") text) (λ rest. option_map negative (digits_in rest))
    (by_front (behind (codes "+") text) (λ rest. option_map pos (digits_in rest))
    (option_map pos (digits_in text)))

-- V: MAX, MIN, ANY or N
unfoldable pub vote_in : List ℕ → Option VoteValue
vote_in text =
    if bytes_eq text (codes "MAX") then Some value.Max
    else if bytes_eq text (codes "MIN") then Some value.Min
    else if bytes_eq text (codes "ANY") then Some value.Any
    else option_map value.Exactly (number_in text)

-- a number as the value that a vote has to be
abbrev pub equal_to : ℤ → Comparison
equal_to n = comparison.Is (value.Exactly n)

-- `=V`, `>=N`, `>N`, `<=N`, `<N`, and `+D` and `-D`, which are `=D` and `=-D`
unfoldable pub comparison_in : List ℕ → Option Comparison
comparison_in text =
    by_front (behind (codes "=") text) (λ rest. option_map comparison.Is (vote_in rest))
    (by_front (behind (codes ">=") text) (λ rest. option_map comparison.AtLeast (number_in rest))
    (by_front (behind (codes ">") text) (λ rest. option_map comparison.Above (number_in rest))
    (by_front (behind (codes "<=") text) (λ rest. option_map comparison.AtMost (number_in rest))
    (by_front (behind (codes "<") text) (λ rest. option_map comparison.Below (number_in rest))
    (by_front (behind (codes "+") text) (λ rest. option_map (λ n. equal_to (pos n)) (digits_in rest))
    (by_front (behind (codes "-") text) (λ rest. option_map (λ n. equal_to (negative n)) (digits_in rest))
    None))))))

-- 0 meets the comparison; MAX, MIN and ANY are not compared with it
abbrev pub is_met_by_zero : Comparison → Bool
is_met_by_zero (comparison.Is (value.Exactly n)) = int_eq (pos 0) n
is_met_by_zero (comparison.Is _) = false
is_met_by_zero (comparison.AtLeast n) = int_le n (pos 0)
is_met_by_zero (comparison.Above n) = int_lt n (pos 0)
is_met_by_zero (comparison.AtMost n) = int_le (pos 0) n
is_met_by_zero (comparison.Below n) = int_lt (pos 0) n
