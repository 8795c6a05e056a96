-- The tokens of which the text of a value is made.
use Rattle.std.specs.Prelude.{◌≡◌, ℕ, List, ◌∷◌, ◌++◌}
use Rattle.json.specs.{Token.Token, Token.key, Tree.json_tokens}
use Rattle.serde_json.specs.{Data.Data, Written.outline}

-- the tokens of a value
abbrev pub value_tokens : Data → List Token
value_tokens value = json_tokens (outline value)

-- the tokens of a member
abbrev pub member_tokens : List ℕ → Data → List Token
member_tokens name value = key name ∷ value_tokens value

-- tokens were put behind the old ones
pub record HasPut (old new put : List Token) : Type 0 where
  pub whole : new ≡ old ++ put
