-- Trees as members of the grammar, level by level.
use Rattle.std.proofs.Common.{Bool, true, false, ◌&&◌, ◌≡◌, ◌||◌, ◌∷◌, refl, ap, ap₂, ◌∙◌, ℕ, ◌+◌, ◌≤◌, max, List, [], arith, zero, suc, ◌<◌, ◌++◌, length, drop, get_or, map, sym, append_assoc, add-one, drop-cons}
use Rattle.std.proofs.lemmas.Bool.{and_parts, and_from}
use Rattle.review_expr_terms.specs.Grammar.{Join, And, Or, Unary, Members, Leaf, Group, Not, One, Next, Tree, Term, Neg, All, Any, Trees, End, With, trees, many, listed, has_or, has_and, tree_of, trees_of, tree, mixed, any_mixed, is_mixed, depth, all_depth}
use Rattle.review_expr_terms.specs.{Views.view, declared.tree.Node.Node}
use Rattle.review_expr_printing.specs.{Printed.member_text, Printed.led_text, inner.Words.left_text}

-- ==== a tree as members of the grammar: lists that are members stand in parentheses. An empty list has no members, and stands here for a term

abbrev pub join_to : {A : Type 0} → Join → Unary A → Trees A → Members A → Members A
join_to j u End ms = One u
join_to j u (With t ts) ms = Next u j ms

abbrev mutual
  pub member : {A : Type 0} → A → Tree A → Unary A
  member d (Term a) = Leaf false a
  member d (Neg t) = Not (member d t)
  member d (All ts) = Group false (joined d And ts)
  member d (Any ts) = Group false (joined d Or ts)

  pub joined : {A : Type 0} → A → Join → Trees A → Members A
  joined d j End = One (Leaf false d)
  joined d j (With t ts) = join_to j (member d t) ts (joined d j ts)

abbrev pub level : {A : Type 0} → A → Tree A → Members A
level d (All ts) = joined d And ts
level d (Any ts) = joined d Or ts
level d (Term a) = One (Leaf false a)
level d (Neg t) = One (Not (member d t))

-- each list has two members or more
abbrev mutual
  pub is_full : {A : Type 0} → Tree A → Bool
  is_full (Term a) = true
  is_full (Neg t) = is_full t
  is_full (All ts) = is_two ts && are_full ts
  is_full (Any ts) = is_two ts && are_full ts

  pub are_full : {A : Type 0} → Trees A → Bool
  are_full End = true
  are_full (With t ts) = is_full t && are_full ts

  pub is_two : {A : Type 0} → Trees A → Bool
  is_two End = false
  is_two (With t ts) = is_some_tree ts

  pub is_some_tree : {A : Type 0} → Trees A → Bool
  is_some_tree End = false
  is_some_tree (With t ts) = true

-- ==== a tree's members have the tree, and no level of them is mixed

-- members by one sign alone have no other
no_or : {A : Type 0} → (d : A) (ts : Trees A) → has_or (joined d And ts) ≡ false
no_or d (With t (With u us)) = no_or d (With u us)
no_or d _ = refl

no_and : {A : Type 0} → (d : A) (ts : Trees A) → has_and (joined d Or ts) ≡ false
no_and d (With t (With u us)) = no_and d (With u us)
no_and d _ = refl

two : {A : Type 0} → (or : Bool) (t : Tree A) (ms : Members A) → listed or (t ∷ trees_of ms) ≡ many or (t ∷ trees_of ms)
two or t (One u) = refl
two or t (Next u j ms) = refl

with_trees : {A : Type 0} → (d : A) (j : Join) (t : Tree A) (ts : Trees A) → tree_of (member d t) ≡ t → (is_some_tree ts ≡ true → trees (trees_of (joined d j ts)) ≡ ts) →
    trees (trees_of (joined d j (With t ts))) ≡ With t ts
with_trees d j t End e f = ap (λ x. With x End) e
with_trees d j t (With u us) e f = ap₂ With e (f refl)

all_tree : {A : Type 0} → (d : A) (t : Tree A) (ts : Trees A) → is_some_tree ts ≡ true → trees (trees_of (joined d And (With t ts))) ≡ With t ts →
    tree (joined d And (With t ts)) ≡ All (With t ts)
all_tree d t End h e = cc
all_tree d t (With u us) h e =
    ap (λ b. listed b (tree_of (member d t) ∷ trees_of (joined d And (With u us)))) (no_or d (With u us)) ∙ two false _ (joined d And (With u us)) ∙ ap All e

any_tree : {A : Type 0} → (d : A) (t : Tree A) (ts : Trees A) → is_some_tree ts ≡ true → trees (trees_of (joined d Or (With t ts))) ≡ With t ts →
    tree (joined d Or (With t ts)) ≡ Any (With t ts)
any_tree d t End h e = cc
any_tree d t (With u us) h e = two true _ (joined d Or (With u us)) ∙ ap Any e

mutual
  member_tree : {A : Type 0} → (d : A) (t : Tree A) → is_full t ≡ true → tree_of (member d t) ≡ t
  member_tree d (Term a) h = refl
  member_tree d (Neg t) h = ap Neg (member_tree d t h)
  member_tree d (All End) h = cc
  member_tree d (All (With t ts)) h =
      all_tree d t ts (and_parts _ _ h).0 (with_trees d And t ts (member_tree d t (and_parts _ _ (and_parts _ _ h).1).0) (λ q. joined_trees d ts And (and_parts _ _ (and_parts _ _ h).1).1 q))
  member_tree d (Any End) h = cc
  member_tree d (Any (With t ts)) h =
      any_tree d t ts (and_parts _ _ h).0 (with_trees d Or t ts (member_tree d t (and_parts _ _ (and_parts _ _ h).1).0) (λ q. joined_trees d ts Or (and_parts _ _ (and_parts _ _ h).1).1 q))

  joined_trees : {A : Type 0} → (d : A) (ts : Trees A) → (j : Join) → are_full ts ≡ true → is_some_tree ts ≡ true → trees (trees_of (joined d j ts)) ≡ ts
  joined_trees d End j h s = cc
  joined_trees d (With t ts) j h s = with_trees d j t ts (member_tree d t (and_parts _ _ h).0) (λ q. joined_trees d ts j (and_parts _ _ h).1 q)

pub level_tree : {A : Type 0} → (d : A) (t : Tree A) → is_full t ≡ true → tree (level d t) ≡ t
level_tree d (Term a) h = refl
level_tree d (Neg t) h = ap Neg (member_tree d t h)
level_tree d (All ts) h = member_tree d (All ts) h
level_tree d (Any ts) h = member_tree d (Any ts) h

with_mixed : {A : Type 0} → (d : A) (j : Join) (t : Tree A) (ts : Trees A) → is_mixed (member d t) ≡ false → any_mixed (joined d j ts) ≡ false → any_mixed (joined d j (With t ts)) ≡ false
with_mixed d j t End e f = e
with_mixed d j t (With u us) e f = rw (e, f) refl

mutual
  member_mixed : {A : Type 0} → (d : A) (t : Tree A) → is_mixed (member d t) ≡ false
  member_mixed d (Term a) = refl
  member_mixed d (Neg t) = member_mixed d t
  member_mixed d (All ts) = rw (no_or d ts, joined_mixed d ts And) refl
  member_mixed d (Any ts) = rw (no_and d ts, joined_mixed d ts Or) (and_false (has_or (joined d Or ts)))
    where
      and_false : (b : Bool) → (b && false) || false ≡ false
      and_false true = refl
      and_false false = refl

  joined_mixed : {A : Type 0} → (d : A) (ts : Trees A) → (j : Join) → any_mixed (joined d j ts) ≡ false
  joined_mixed d End j = refl
  joined_mixed d (With t ts) j = with_mixed d j t ts (member_mixed d t) (joined_mixed d ts j)

pub level_mixed : {A : Type 0} → (d : A) (t : Tree A) → mixed (level d t) ≡ false
level_mixed d (Term a) = refl
level_mixed d (Neg t) = member_mixed d t
level_mixed d (All ts) = member_mixed d (All ts)
level_mixed d (Any ts) = member_mixed d (Any ts)

-- ==== a tree that tokens have is printed no deeper than they are, and its lists have two members or more

-- the greatest depth of these as members
abbrev greatest : {A : Type 0} → (d : A) → List (Tree A) → ℕ
greatest d [] = 0
greatest d (t ∷ ts) = max (depth (member d t)) (greatest d ts)

joined_depth : {A : Type 0} → (d : A) (j : Join) (t : Tree A) (ts : List (Tree A)) → all_depth (joined d j (trees (t ∷ ts))) ≤ greatest d (t ∷ ts)
joined_depth d j t [] = omega arith
joined_depth d j t (u ∷ us) = omega (arith, joined_depth d j u us)

many_depth : {A : Type 0} → (d : A) (or : Bool) (t : Tree A) (ts : List (Tree A)) → depth (member d (many or (t ∷ ts))) ≤ greatest d (t ∷ ts) + 1
many_depth d true t ts = omega (arith, joined_depth d Or t ts)
many_depth d false t ts = omega (arith, joined_depth d And t ts)

listed_depth : {A : Type 0} → (d : A) (or : Bool) (t : Tree A) (ts : List (Tree A)) → depth (member d (listed or (t ∷ ts))) ≤ greatest d (t ∷ ts) + 1
listed_depth d or t [] = omega arith
listed_depth d or t (u ∷ us) = many_depth d or t (u ∷ us)

members_depth : {A : Type 0} → (d : A) (or : Bool) (ms : Members A) → depth (member d (listed or (trees_of ms))) ≤ greatest d (trees_of ms) + 1
members_depth d or (One u) = listed_depth d or (tree_of u) []
members_depth d or (Next u j ms) = listed_depth d or (tree_of u) (trees_of ms)

mutual
  member_depth : {A : Type 0} → (d : A) (u : Unary A) → depth (member d (tree_of u)) ≤ depth u
  member_depth d (Leaf true a) = omega arith
  member_depth d (Leaf false a) = omega arith
  member_depth d (Group true ms) = omega (arith, members_depth d (has_or ms) ms, greatest_depth d ms)
  member_depth d (Group false ms) = omega (arith, members_depth d (has_or ms) ms, greatest_depth d ms)
  member_depth d (Not u) = omega (arith, member_depth d u)

  greatest_depth : {A : Type 0} → (d : A) (ms : Members A) → greatest d (trees_of ms) ≤ all_depth ms
  greatest_depth d (One u) = omega (arith, member_depth d u)
  greatest_depth d (Next u j ms) = omega (arith, member_depth d u, greatest_depth d ms)

level_within : {A : Type 0} → (d : A) (t : Tree A) → all_depth (level d t) ≤ depth (member d t)
level_within d (Term a) = omega arith
level_within d _ = omega arith

level_many : {A : Type 0} → (d : A) (or : Bool) (t : Tree A) (ts : List (Tree A)) → all_depth (level d (many or (t ∷ ts))) ≤ greatest d (t ∷ ts)
level_many d true t ts = joined_depth d Or t ts
level_many d false t ts = joined_depth d And t ts

level_listed : {A : Type 0} → (d : A) (or : Bool) (t : Tree A) (ts : List (Tree A)) → all_depth (level d (listed or (t ∷ ts))) ≤ greatest d (t ∷ ts)
level_listed d or t [] = omega (arith, level_within d t)
level_listed d or t (u ∷ us) = level_many d or t (u ∷ us)

pub level_depth : {A : Type 0} → (d : A) (ms : Members A) → all_depth (level d (tree ms)) ≤ all_depth ms
level_depth d (One u) = omega (arith, level_listed d false (tree_of u) [], member_depth d u)
level_depth d (Next u j ms) = omega (arith, level_listed d (has_or (Next u j ms)) (tree_of u) (trees_of ms), greatest_depth d (Next u j ms))

abbrev all_full : {A : Type 0} → List (Tree A) → Bool
all_full ts = are_full (trees ts)

many_full : {A : Type 0} → (or : Bool) (t u : Tree A) (ts : List (Tree A)) → all_full (t ∷ u ∷ ts) ≡ true → is_full (many or (t ∷ u ∷ ts)) ≡ true
many_full true t u ts h = h
many_full false t u ts h = h

only_full : (a : Bool) → a && true ≡ true → a ≡ true
only_full true h = refl
only_full false h = h

listed_full : {A : Type 0} → (or : Bool) (t : Tree A) (ts : List (Tree A)) → all_full (t ∷ ts) ≡ true → is_full (listed or (t ∷ ts)) ≡ true
listed_full or t [] h = only_full _ h
listed_full or t (u ∷ us) h = many_full or t u us h

members_full : {A : Type 0} → (or : Bool) (ms : Members A) → all_full (trees_of ms) ≡ true → is_full (listed or (trees_of ms)) ≡ true
members_full or (One u) h = listed_full or (tree_of u) [] h
members_full or (Next u j ms) h = listed_full or (tree_of u) (trees_of ms) h

mutual
  unary_full : {A : Type 0} → (u : Unary A) → is_full (tree_of u) ≡ true
  unary_full (Leaf true a) = refl
  unary_full (Leaf false a) = refl
  unary_full (Group true ms) = members_full (has_or ms) ms (all_are_full ms)
  unary_full (Group false ms) = members_full (has_or ms) ms (all_are_full ms)
  unary_full (Not u) = unary_full u

  all_are_full : {A : Type 0} → (ms : Members A) → all_full (trees_of ms) ≡ true
  all_are_full (One u) = and_from _ _ (unary_full u) refl
  all_are_full (Next u j ms) = and_from _ _ (unary_full u) (all_are_full ms)

pub tree_full : {A : Type 0} → (ms : Members A) → is_full (tree ms) ≡ true
tree_full ms = members_full (has_or ms) ms (all_are_full ms)

-- ==== members are written one behind the other

front : {A : Type 0} → (word : A → List ℕ) (sign : List ℕ) (n : ℕ) (ms : List (Node A)) (i : ℕ) (d m : Node A) → i < length ms → get_or ms i d ≡ m →
    left_text word sign n (trees (map view (drop i ms))) ≡ left_text word sign n (With (view m) (trees (map view (drop (i + 1) ms))))
front word sign n ms i d m lt is =
    ap (λ xs. left_text word sign n (trees (map view xs))) (drop-cons ms i d lt ∙ ap₂ (λ y k. y ∷ drop k ms) is (sym (add-one i)))

pub first_written : {A : Type 0} → (word : A → List ℕ) (sign : List ℕ) (ms : List (Node A)) (i : ℕ) (d m : Node A) (old new : List ℕ) → i < length ms → get_or ms i d ≡ m →
    i ≡ 0 → new ≡ old ++ member_text word (view m) →
    new ++ left_text word sign (i + 1) (trees (map view (drop (i + 1) ms))) ≡ old ++ left_text word sign i (trees (map view (drop i ms)))
first_written word sign ms i d m old new lt is none e =
    let rest = trees (map view (drop (i + 1) ms)) in
    ap₂ (λ xs n. xs ++ left_text word sign n rest) e (add-one i) ∙ append_assoc old (member_text word (view m)) (led_text word sign rest)
    ∙ ap (λ n. old ++ left_text word sign n (With (view m) rest)) (sym none) ∙ ap (λ xs. old ++ xs) (sym (front word sign i ms i d m lt is))

pub next_written : {A : Type 0} → (word : A → List ℕ) (sign : List ℕ) (ms : List (Node A)) (i : ℕ) (d m : Node A) (old new : List ℕ) → i < length ms → get_or ms i d ≡ m →
    0 < i → new ≡ (old ++ sign) ++ member_text word (view m) →
    new ++ left_text word sign (i + 1) (trees (map view (drop (i + 1) ms))) ≡ old ++ left_text word sign i (trees (map view (drop i ms)))
next_written word sign ms zero d m old new lt is some e = absurd (omega arith)
next_written word sign ms (suc j) d m old new lt is some e =
    let i = suc j in
    let rest = trees (map view (drop (i + 1) ms)) in
    ap₂ (λ xs n. xs ++ left_text word sign n rest) e (add-one i)
    ∙ append_assoc (old ++ sign) (member_text word (view m)) (led_text word sign rest)
    ∙ append_assoc old sign (member_text word (view m) ++ led_text word sign rest)
    ∙ ap (λ xs. old ++ xs) (sym (front word sign i ms i d m lt is))
