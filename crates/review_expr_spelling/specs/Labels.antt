-- The value of a `label:` word.
use Rattle.std.specs.Prelude.{ℕ, zero, suc, List, ◌&&◌, nat_le, if◌then◌else◌, codes, length, take, drop, Option, Some, None, option_map}
use Rattle.std.specs.Str.{bytes_eq}
use Rattle.review_names.specs.{Forms.is_label, Names.is_word, Numerals.◌>>=◌, Numerals.account_of}
use Rattle.review_expr_terms.specs.declared.terms.{Count.Count, LabelTerm.LabelTerm, Voters.Voters}
use Rattle.review_expr_spelling.specs.Values.{behind, cut_at, by_front, comparison_in, digits_in}
use Rattle.review_expr_terms.specs.declared.terms.Voters.TheVariants as voters
use Rattle.review_expr_terms.specs.declared.terms.Count.TheVariants as count

-- the longest front, of at most so many bytes, that is the name of a label, and what follows it
unfoldable pub longest_label : ℕ → List ℕ → Option (List ℕ × List ℕ)
longest_label zero text = None
longest_label (suc n) text =
    if nat_le (suc n) (length text) && is_label (take (suc n) text) then Some (take (suc n) text, drop (suc n) text) else longest_label n text

-- K: 1 to 20 in decimal, without leading zeros
unfoldable pub accounts_in : List ℕ → Option ℕ
accounts_in text = do
  n ← digits_in text
  if nat_le 1 n && nat_le n 20 then Some n else None

-- a part that says how many accounts are asked for
unfoldable pub count_in : List ℕ → Option Count
count_in part =
    by_front (behind (codes "count=") part) (λ rest. option_map count.Exactly (accounts_in rest))
    (by_front (behind (codes "count>=") part) (λ rest. option_map count.AtLeast (accounts_in rest))
    (by_front (behind (codes "count>") part) (λ rest. option_map count.Above (accounts_in rest))
    None))

-- who `user=` names
unfoldable pub user_in : List ℕ → Option Voters
user_in text =
    if bytes_eq text (codes "non_uploader") then Some voters.NonUploader
    else if bytes_eq text (codes "owner") then Some voters.Owner
    else option_map voters.Account (account_of text)

-- the name of a group, where the text is one
abbrev pub group_in : List ℕ → Option (List ℕ)
group_in text = if is_word text then Some text else None

-- a part that says whose votes count
unfoldable pub voters_in : List ℕ → Option Voters
voters_in part =
    by_front (behind (codes "user=") part) user_in
    (by_front (behind (codes "group=") part) (λ rest. option_map voters.Group (group_in rest))
    None)

-- a part that is a count, and one that says whose votes count
abbrev pub one_part : Option Count → List ℕ → Option (Voters × Option Count)
one_part (Some asked) part = Some (voters.Everyone, Some asked)
one_part None part = option_map (λ who. (who, None)) (voters_in part)

-- Two parts: one is a count, and the other says whose votes count.
abbrev pub two_parts : Option Count → Option Count → List ℕ → List ℕ → Option (Voters × Option Count)
two_parts first (Some asked) a b = option_map (λ who. (who, Some asked)) (voters_in a)
two_parts (Some asked) None a b = option_map (λ who. (who, Some asked)) (voters_in b)
two_parts None None a b = None

-- what stands behind the commas of a label term: one part or two
abbrev pub parts_by : Option (List ℕ × List ℕ) → List ℕ → Option (Voters × Option Count)
parts_by None parts = one_part (count_in parts) parts
parts_by (Some (a, b)) parts = two_parts (count_in a) (count_in b) a b

-- the parts behind a comparison: none, or one or two that a comma separates
unfoldable pub parts_in : Option (List ℕ) → Option (Voters × Option Count)
parts_in None = Some (voters.Everyone, None)
parts_in (Some parts) = parts_by (cut_at 44 parts) parts

-- what stands before the first comma, or the whole
abbrev pub comparison_part : Option (List ℕ × List ℕ) → List ℕ → List ℕ
comparison_part None rest = rest
comparison_part (Some halves) rest = halves.0

-- what stands behind the first comma
abbrev pub behind_comma : Option (List ℕ × List ℕ) → Option (List ℕ)
behind_comma = option_map (λ halves. halves.1)

-- a label term: the longest front that is a label's name, which has at most 40 bytes, a comparison, and parts
unfoldable pub label_in : List ℕ → Option LabelTerm
label_in value = do
  halves ← longest_label 40 value
  asked ← comparison_in (comparison_part (cut_at 44 halves.1) halves.1)
  parts ← parts_in (behind_comma (cut_at 44 halves.1))
  Some (record { label = halves.0; comparison = asked; voters = parts.0; count = parts.1 })
