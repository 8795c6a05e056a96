-- Words that only proofs and private clauses use.
use denote.Ref.{Bor}
use Rattle.std.specs.Prelude.{ℕ, List, Option, option_map}

-- the text behind a reference, if there is one
abbrev pub text_behind : Option (Bor (List ℕ)) → Option (List ℕ)
text_behind = option_map (λ x. x.now)
