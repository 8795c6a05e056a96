-- Values of votes.
use Rattle.std.specs.{Ordering.int_eq, Prelude.ℤ, Prelude.pos, Prelude.Bool, Prelude.not}

-- a vote that isn't 0
abbrev pub voted : ℤ → Bool
voted v = not (int_eq v (pos 0))
