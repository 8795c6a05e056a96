-- The lines of an input.
use Rattle.std.specs.{Io.KnownBytes.Consumes, Io.KnownBytes.IsAtEnd, List.All}
use Rattle.std.specs.Prelude.{[], ℕ, ◌==◌, ◌||◌, Bool, ◌≡◌, ◌<◌, ◌≤◌, List, length, ◌≢◌, true, false, ◌⊎◌, ◌++◌, ◌∷◌, Option, Some, None}
use Rattle.review_json_lines.specs.declared.lines.Line.{Line, TheVariants.Whole, TheVariants.TooLong}

-- the most bytes of a line, without its end
abbrev pub most_bytes : ℕ
most_bytes = 400000

-- the byte that ends a line
abbrev pub line_feed : ℕ
line_feed = 10

-- a space, a tab or a carriage return
abbrev pub is_space : ℕ → Bool
is_space b = b == 32 || b == 9 || b == 13

-- the bytes of a line, or that there are too many
abbrev pub IsLineOf : Line → List ℕ → Type 0
IsLineOf (Whole bytes) given = (bytes.items ≡ given) × (length given ≤ most_bytes)
IsLineOf TooLong given = most_bytes < length given

-- no byte ends a line
abbrev pub HasNoEnd : List ℕ → Type 0
HasNoEnd bytes = All (λ b. b ≢ line_feed) bytes

-- whether a byte ends a line
abbrev pub HoldsEnd : Bool → List ℕ → Type 0
HoldsEnd true bytes = HasNoEnd bytes → ⊥
HoldsEnd false bytes = HasNoEnd bytes

-- what is left of an input gave these bytes and then the end of a line, or these, at least one, and then the end of the input
abbrev pub GaveLine : Option (List ℕ) → Option (List ℕ) → List ℕ → Type 0
GaveLine old new bytes = Consumes old new (bytes ++ line_feed ∷ []) ⊎ (Consumes old new bytes × IsAtEnd new × (0 < length bytes))

-- the next line of an input, or none where it has no bytes left
abbrev pub IsNext : Option (List ℕ) → Option (List ℕ) → Option Line → Type 0
IsNext old new None = IsAtEnd old × IsAtEnd new
IsNext old new (Some line) = (bytes : List ℕ) × IsLineOf line bytes × HasNoEnd bytes × GaveLine old new bytes
