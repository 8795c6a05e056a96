-- Reading members off the front of a list of tokens, as the parser does; the law above it is `HasTree`.
use Rattle.std.specs.Prelude.{ℕ, zero, suc, Bool, true, false, List, [], ◌∷◌, Option, Some, None}
use Rattle.review_expr_terms.specs.Grammar.{Tok, Word, Open, Close, Minus, NotWord, AndWord, OrWord, Join, Blank, And, Or, Unary, Members, Leaf, Group, Not, One, Next}

-- a value and the tokens after it
abbrev pub Read : Type 0 → Type 0 → Type 0
Read A X = Option (X × List (Tok A))

-- what was read behind a NOT
abbrev pub not_read : {A : Type 0} → Read A (Unary A) → Read A (Unary A)
not_read None = None
not_read (Some (u, rest)) = Some (Not u, rest)

-- what was read within parentheses, up to the closing one
abbrev pub closed : {A : Type 0} → Bool → Read A (Members A) → Read A (Unary A)
closed negated None = None
closed negated (Some (ms, Close ∷ rest)) = Some (Group negated ms, rest)
closed negated (Some (ms, _)) = None

-- a term, or members within parentheses
abbrev pub primary : {A : Type 0} → Bool → (List (Tok A) → Read A (Members A)) → List (Tok A) → Read A (Unary A)
primary negated members (Word a ∷ rest) = Some (Leaf negated a, rest)
primary negated members (Open ∷ rest) = closed negated (members rest)
primary negated members _ = None

-- what stands in front of a member
pub data Sign : Type 0 where
  NoSign : Sign
  NotSign : Sign
  MinusSign : Sign

-- the sign in front, and the tokens after it
abbrev pub sign : {A : Type 0} → List (Tok A) → Sign × List (Tok A)
sign (NotWord ∷ rest) = (NotSign, rest)
sign (Minus ∷ rest) = (MinusSign, rest)
sign ts = (NoSign, ts)

-- what is read behind a sign
abbrev pub by_sign : {A : Type 0} → (List (Tok A) → Read A (Unary A)) → (List (Tok A) → Read A (Members A)) → Sign × List (Tok A) → Read A (Unary A)
by_sign unary members (NotSign, rest) = not_read (unary rest)
by_sign unary members (MinusSign, rest) = primary true members rest
by_sign unary members (NoSign, rest) = primary false members rest

-- a member with what stands in front of it
abbrev pub unary_of : {A : Type 0} → (List (Tok A) → Read A (Unary A)) → (List (Tok A) → Read A (Members A)) → List (Tok A) → Read A (Unary A)
unary_of unary members ts = by_sign unary members (sign ts)

-- a member in front of those that were read behind it
abbrev pub followed : {A : Type 0} → Unary A → Join → Read A (Members A) → Read A (Members A)
followed u j None = None
followed u j (Some (ms, rest)) = Some (Next u j ms, rest)

-- the sign between two members, and the tokens after it; none at the end or before a closing parenthesis
abbrev pub joint : {A : Type 0} → List (Tok A) → Option Join × List (Tok A)
joint [] = (None, [])
joint (Close ∷ rest) = (None, Close ∷ rest)
joint (AndWord ∷ rest) = (Some And, rest)
joint (OrWord ∷ rest) = (Some Or, rest)
joint (t ∷ rest) = (Some Blank, t ∷ rest)

-- a member, and what is read behind what joins it to more
abbrev pub by_joint : {A : Type 0} → (List (Tok A) → Read A (Members A)) → Unary A → Option Join × List (Tok A) → Read A (Members A)
by_joint members u (None, rest) = Some (One u, rest)
by_joint members u (Some j, rest) = followed u j (members rest)

-- a member and those behind it
abbrev pub more_of : {A : Type 0} → (List (Tok A) → Read A (Members A)) → Unary A → List (Tok A) → Read A (Members A)
more_of members u ts = by_joint members u (joint ts)

-- members, from the first on
abbrev pub members_of : {A : Type 0} → (List (Tok A) → Read A (Members A)) → Read A (Unary A) → Read A (Members A)
members_of members None = None
members_of members (Some (u, rest)) = more_of members u rest

-- at most so many calls deep
unfoldable mutual
  pub unary : {A : Type 0} → ℕ → List (Tok A) → Read A (Unary A)
  unary zero ts = None
  unary (suc n) ts = unary_of (unary n) (members n) ts

  pub members : {A : Type 0} → ℕ → List (Tok A) → Read A (Members A)
  members zero ts = None
  members (suc n) ts = members_of (members n) (unary n ts)
