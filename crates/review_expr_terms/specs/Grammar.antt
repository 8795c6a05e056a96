-- The grammar of expressions over tokens, and the tree that tokens of the grammar have. A term may be anything: A.
use Rattle.std.specs.Prelude.{◌≡◌, ◌≢◌, ℕ, ◌+◌, ◌<◌, ◌≤◌, max, Bool, true, false, ◌&&◌, ◌||◌, List, [], ◌∷◌, ◌++◌}

-- a token of an expression: a term, a parenthesis, an operator or a minus
pub data Tok (A : Type 0) : Type 0 where
  Word : A → Tok A
  Open : Tok A
  Close : Tok A
  Minus : Tok A
  NotWord : Tok A
  AndWord : Tok A
  OrWord : Tok A

-- what stands between two members
pub data Join : Type 0 where
  Blank : Join
  And : Join
  Or : Join

mutual
  -- a unary: a term or a parenthesis, perhaps with a minus, or NOT and a unary
  pub data Unary (A : Type 0) : Type 0 where
    Leaf : Bool → A → Unary A
    Group : Bool → Members A → Unary A
    Not : Unary A → Unary A

  -- one or more unaries, AND and OR freely mixed
  pub data Members (A : Type 0) : Type 0 where
    One : Unary A → Members A
    Next : Unary A → Join → Members A → Members A

-- the token of a minus, where there is one
abbrev pub minus : {A : Type 0} → Bool → List (Tok A)
minus true = Minus ∷ []
minus false = []

-- the token that stands between two members
abbrev pub between : {A : Type 0} → Join → List (Tok A)
between Blank = []
between And = AndWord ∷ []
between Or = OrWord ∷ []

-- the tokens that spell it
abbrev mutual
  pub spelled : {A : Type 0} → Unary A → List (Tok A)
  spelled (Leaf negated a) = minus negated ++ Word a ∷ []
  spelled (Group negated ms) = minus negated ++ (Open ∷ (all_spelled ms ++ Close ∷ []))
  spelled (Not u) = NotWord ∷ spelled u

  pub all_spelled : {A : Type 0} → Members A → List (Tok A)
  all_spelled (One u) = spelled u
  all_spelled (Next u j ms) = spelled u ++ (between j ++ all_spelled ms)

-- the tree
mutual
  pub data Tree (A : Type 0) : Type 0 where
    Term : A → Tree A
    Neg : Tree A → Tree A
    All : Trees A → Tree A
    Any : Trees A → Tree A

  pub data Trees (A : Type 0) : Type 0 where
    End : Trees A
    With : Tree A → Trees A → Trees A

-- a tree, negated where it is to be
abbrev pub negated_if : {A : Type 0} → Bool → Tree A → Tree A
negated_if true t = Neg t
negated_if false t = t

-- a list of trees as the members of one
abbrev pub trees : {A : Type 0} → List (Tree A) → Trees A
trees [] = End
trees (t ∷ ts) = With t (trees ts)

-- two or more trees joined by OR, or by AND
abbrev pub many : {A : Type 0} → Bool → List (Tree A) → Tree A
many true ts = Any (trees ts)
many false ts = All (trees ts)

-- the only member itself, else a list; members that AND and OR both join have no tree, and this is not asked there
abbrev pub listed : {A : Type 0} → Bool → List (Tree A) → Tree A
listed or [] = many or []
listed or (t ∷ []) = t
listed or (t ∷ u ∷ ts) = many or (t ∷ u ∷ ts)

-- whether two members are joined by OR
abbrev pub is_or : Join → Bool
is_or Or = true
is_or _ = false

-- whether two members are joined by AND, or by nothing between them, which means AND
abbrev pub is_and : Join → Bool
is_and Or = false
is_and _ = true

-- whether two of the members are joined by OR
abbrev pub has_or : {A : Type 0} → Members A → Bool
has_or (One u) = false
has_or (Next u j ms) = is_or j || has_or ms

-- whether two of the members are joined by AND
abbrev pub has_and : {A : Type 0} → Members A → Bool
has_and (One u) = false
has_and (Next u j ms) = is_and j || has_and ms

abbrev mutual
  pub tree_of : {A : Type 0} → Unary A → Tree A
  tree_of (Leaf negated a) = negated_if negated (Term a)
  tree_of (Group negated ms) = negated_if negated (listed (has_or ms) (trees_of ms))
  tree_of (Not u) = Neg (tree_of u)

  pub trees_of : {A : Type 0} → Members A → List (Tree A)
  trees_of (One u) = tree_of u ∷ []
  trees_of (Next u j ms) = tree_of u ∷ trees_of ms

-- one more, where it is so
abbrev pub more_if : Bool → ℕ → ℕ
more_if true n = n + 1
more_if false n = n

-- a term is 1 deep; NOT, a minus and a pair of parentheses are each one more than what they hold; a list is as deep as its deepest member
abbrev mutual
  pub depth : {A : Type 0} → Unary A → ℕ
  depth (Leaf negated a) = more_if negated 1
  depth (Group negated ms) = more_if negated (all_depth ms + 1)
  depth (Not u) = depth u + 1

  pub all_depth : {A : Type 0} → Members A → ℕ
  all_depth (One u) = depth u
  all_depth (Next u j ms) = max (depth u) (all_depth ms)

-- somewhere AND and OR join members of one level
abbrev mutual
  pub is_mixed : {A : Type 0} → Unary A → Bool
  is_mixed (Leaf negated a) = false
  is_mixed (Group negated ms) = (has_or ms && has_and ms) || any_mixed ms
  is_mixed (Not u) = is_mixed u

  pub any_mixed : {A : Type 0} → Members A → Bool
  any_mixed (One u) = is_mixed u
  any_mixed (Next u j ms) = is_mixed u || any_mixed ms

-- the whole text's members are those of a level
abbrev pub tree : {A : Type 0} → Members A → Tree A
tree ms = listed (has_or ms) (trees_of ms)

-- whether AND and OR stand at one level, here or within a member
abbrev pub mixed : {A : Type 0} → Members A → Bool
mixed ms = (has_or ms && has_and ms) || any_mixed ms

-- The tokens have the tree.
abbrev pub HasTree : {A : Type 0} → List (Tok A) → Tree A → Type 0
HasTree {A = A} ts t = (ms : Members A) × (all_spelled ms ≡ ts) × (all_depth ms ≤ 32) × (mixed ms ≡ false) × (tree ms ≡ t)

-- why tokens are no expression
pub data Fault : Type 0 where
  BadTerm : Fault
  TooDeep : Fault
  Mixed : Fault

-- The tokens have no tree, for this cause.
abbrev pub HasFault : {A : Type 0} → List (Tok A) → Fault → Type 0
HasFault {A = A} ts BadTerm = (ms : Members A) → all_spelled ms ≢ ts
HasFault {A = A} ts TooDeep = (ms : Members A) × (all_spelled ms ≡ ts) × (32 < all_depth ms)
HasFault {A = A} ts Mixed = (ms : Members A) × (all_spelled ms ≡ ts) × (all_depth ms ≤ 32) × (mixed ms ≡ true)
