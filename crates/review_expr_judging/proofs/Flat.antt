-- Flat lists: a node behind its members, and a stack that a flat list is run on.
use Rattle.std.proofs.Common.{◌≡◌, ℕ, zero, suc, ◌+◌, ◌-◌, ◌≤◌, Bool, ◌&&◌, ◌||◌, List, [], ◌∷◌, ◌++◌, length, map, take, drop, get_or, refl, sym, ap, ap₂, ◌∙◌, arith, append_assoc}
use Rattle.std.proofs.Math.ListN.{drop_of_length-le}
use Rattle.std.proofs.lemmas.List.{append-nil, length-map, map-append}
use Rattle.std.specs.List.{list_all, list_any}
use Rattle.review_expr_terms.specs.Grammar.{Tree, Term, Neg, All, Any, Trees, End, With, trees}
use Rattle.review_expr_terms.specs.{Views.view, declared.tree.Node.Node}
use Rattle.review_expr_judging.specs.Holds.{holds, all_hold, any_holds}
use Rattle.review_expr_judging.specs.Postfix.{Entry, NotEntry, AndEntry, OrEntry, entry, how_many, postfix, postfixes}
use Rattle.review_expr_judging.specs.{declared.compiled.Step.Step, inner.Stack.LeadsTo}

how_many_trees : {A : Type 0} (ts : List (Tree A)) → how_many (trees ts) ≡ length ts
how_many_trees [] = refl
how_many_trees (t ∷ ts) = omega (arith, how_many_trees ts)

-- a node behind the steps of its members
pub behind : {A : Type 0} (all : ℕ → Entry A) (steps mid new : List (Step A)) (s : Step A) (n : ℕ) (es : List (Node A)) → new ≡ mid ++ s ∷ [] → entry s ≡ all n → n ≡ length es →
    map entry mid ≡ map entry steps ++ postfixes (trees (map view es)) →
    map entry new ≡ map entry steps ++ (postfixes (trees (map view es)) ++ all (how_many (trees (map view es))) ∷ [])
behind all steps mid new s n es e f g h =
    ap (map entry) e ∙ map-append entry mid (s ∷ []) ∙ ap₂ (λ xs o. xs ++ o ∷ []) h (f ∙ ap all (g ∙ sym (how_many_trees (map view es) ∙ length-map es view)))
    ∙ append_assoc (map entry steps) (postfixes (trees (map view es))) (all (how_many (trees (map view es))) ∷ [])

-- the truth values of trees
abbrev pub truths : {A : Type 0} → (A → Bool) → Trees A → List Bool
truths h End = []
truths h (With t ts) = holds h t ∷ truths h ts

length_truths : {A : Type 0} (h : A → Bool) (ts : Trees A) → length (truths h ts) ≡ how_many ts
length_truths h End = refl
length_truths h (With t ts) = omega (arith, length_truths h ts)

all_truths : {A : Type 0} (h : A → Bool) (ts : Trees A) → list_all (λ x. x) (truths h ts) ≡ all_hold h ts
all_truths h End = refl
all_truths h (With t ts) = ap (λ b. holds h t && b) (all_truths h ts)

any_truths : {A : Type 0} (h : A → Bool) (ts : Trees A) → list_any (λ x. x) (truths h ts) ≡ any_holds h ts
any_truths h End = refl
any_truths h (With t ts) = ap (λ b. holds h t || b) (any_truths h ts)

-- a tree's flat list puts its truth value on the stack
mutual
  leads_tree : {A : Type 0} (h : A → Bool) (t : Tree A) (stack : List Bool) (rest : List (Entry A)) (b : Bool) → LeadsTo h (stack ++ holds h t ∷ []) rest b → LeadsTo h stack (postfix t ++ rest) b
  leads_tree h (Term a) stack rest b k = k
  leads_tree h (Neg t) stack rest b k =
      rw (append_assoc (postfix t) (NotEntry ∷ []) rest) (leads_tree h t stack (NotEntry ∷ rest) b (stack, holds h t, refl, k))
  leads_tree h (All ts) stack rest b k =
      rw (append_assoc (postfixes ts) (AndEntry (how_many ts) ∷ []) rest) (leads_trees h ts stack (AndEntry (how_many ts) ∷ rest) b (stack, truths h ts, refl, length_truths h ts, rw (all_truths h ts) k))
  leads_tree h (Any ts) stack rest b k =
      rw (append_assoc (postfixes ts) (OrEntry (how_many ts) ∷ []) rest) (leads_trees h ts stack (OrEntry (how_many ts) ∷ rest) b (stack, truths h ts, refl, length_truths h ts, rw (any_truths h ts) k))

  leads_trees : {A : Type 0} (h : A → Bool) (ts : Trees A) (stack : List Bool) (rest : List (Entry A)) (b : Bool) → LeadsTo h (stack ++ truths h ts) rest b → LeadsTo h stack (postfixes ts ++ rest) b
  leads_trees h End stack rest b k = rw (append-nil stack) at k
  leads_trees h (With t ts) stack rest b k =
      rw (append_assoc (postfix t) (postfixes ts) rest) (leads_tree h t stack (postfixes ts ++ rest) b (leads_trees h ts (stack ++ holds h t ∷ []) rest b (rw (append_assoc stack (holds h t ∷ []) (truths h ts)) k)))

-- a tree's flat list leads from nothing to its truth value
pub leads_whole : {A : Type 0} (h : A → Bool) (t : Tree A) → LeadsTo h [] (postfix t) (holds h t)
leads_whole {A = A} h t = rw (sym (append-nil (postfix t))) (leads_tree {A = A} h t [] [] (holds h t) refl)

pub leads_list : {A : Type 0} (h : A → Bool) (t : Tree A) (stack : List Bool) (list steps : List (Step A)) → stack ≡ [] → steps ≡ list → map entry list ≡ postfix t → LeadsTo h stack (map entry steps) (holds h t)
leads_list h t stack list steps none same e = rw (none, same, e) (leads_whole h t)

-- where nothing of a list is left, its truth value is all that lies on the stack
pub none_left : {A : Type 0} (h : A → Bool) (steps : List (Step A)) (i : ℕ) (stack : List Bool) (b : Bool) → length steps ≤ i → LeadsTo h stack (map entry (drop i steps)) b → stack ≡ b ∷ []
none_left h steps i stack b e k = rw (drop_of_length-le steps e) at k

-- where a stack is one value, that is the first of its room
pub first_is : (top : ℕ) (room : List Bool) (b d : Bool) → take top room ≡ b ∷ [] → get_or room 0 d ≡ b
first_is zero room b d e = absurd (let f : [] ≡ b ∷ [] = e in cc)
first_is (suc n) [] b d e = absurd (let f : [] ≡ b ∷ [] = e in cc)
first_is (suc n) (x ∷ xs) b d e = let f : x ∷ take n xs ≡ b ∷ [] = e in cc

pub there_is : (top : ℕ) (room : List Bool) (b : Bool) → take top room ≡ b ∷ [] → room ≡ [] → ⊥
there_is top room b e none = let f : take top [] ≡ b ∷ [] = ap (take top) (sym none) ∙ e in nothing top b f
  where
    nothing : (top : ℕ) (b : Bool) → take top [] ≡ b ∷ [] → ⊥
    nothing zero b e = let f : [] ≡ b ∷ [] = e in cc
    nothing (suc n) b e = let f : [] ≡ b ∷ [] = e in cc
