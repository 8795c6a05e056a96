-- The bytes that reads took, and those that writes put.
use Rattle.std.specs.Io.KnownBytes.{Consumes, IsAtEnd}
use Rattle.std.specs.Prelude.{◌≡◌, ◌<◌, ◌++◌, ℕ, List, [], length, Bool, true, false, Option, Result, Ok, Err}
use Rattle.review_http_requests.specs.declared.reading.Stop.{Stop, TheVariants.Read, TheVariants.Memory}

-- from before to after a reader gave these bytes, and where it ended it has none left
pub record Gave (before after : Option (List ℕ)) (bytes : List ℕ) (ended : Bool) : Type 0 where
  pub gives : Consumes before after bytes
  pub end : ended ≡ true → IsAtEnd after

-- What one read brought to the bytes that were there: true is answered with a piece behind them, false where the reader ended.
-- A read that failed gave nothing; for want of memory its piece is lost.
abbrev pub IsBrought : Result Bool Stop → List ℕ → Bool → List ℕ → List ℕ → Type 0
IsBrought (Ok true) piece ended held holds = (ended ≡ false) × (0 < length piece) × (holds ≡ held ++ piece)
IsBrought (Ok false) piece ended held holds = (ended ≡ true) × (piece ≡ []) × (holds ≡ held)
IsBrought (Err Read) piece ended held holds = (ended ≡ false) × (piece ≡ []) × (holds ≡ held)
IsBrought (Err Memory) piece ended held holds = (ended ≡ false) × (0 < length piece) × (holds ≡ held)

-- these bytes are a first part of those, perhaps all or none
abbrev pub IsFirstPart : List ℕ → List ℕ → Type 0
IsFirstPart part whole = (rest : List ℕ) × (whole ≡ part ++ rest)
