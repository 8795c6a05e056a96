-- Words that only proofs and private clauses use.
use Rattle.std.specs.Prelude.{[], ℕ, List, length, take, drop, ◌+◌, ◌&&◌, nat_lt, ◌==◌, slice_index, Option, Some, None, if◌then◌else◌, ◌∷◌, ◌-◌, ◌*◌, nat_le, ◌≡◌, Result, Ok, Err}

-- the first n bytes and what follows the comma after them
abbrev pub taken : ℕ → List ℕ → Option (List ℕ × List ℕ)
taken n cs = if nat_lt n (length cs) && (slice_index cs n == 44) then Some (take n cs, drop (n + 1) cs) else None

-- the first field of a text and the rest, where the digits of n stood before the text
abbrev pub split_after : ℕ → List ℕ → Option (List ℕ × List ℕ)
split_after n [] = None
split_after n (c ∷ cs) =
    if c == 58 then taken n cs
    else if nat_le 48 c && nat_le c 57 && nat_lt n 1000000000 then split_after (n * 10 + (c - 48)) cs
    else None
