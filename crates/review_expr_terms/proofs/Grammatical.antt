-- What reading finds is in the grammar, and nothing else is.
use Rattle.std.proofs.Common.{◌≡◌, ℕ, zero, suc, ◌≤◌, Bool, true, false, List, [], ◌∷◌, ◌++◌, Some, None, refl, sym, ap, ◌∙◌, subst, arith, append_assoc, max}
use Rattle.review_expr_terms.specs.Grammar.{Tok, Word, Open, Close, Minus, NotWord, AndWord, OrWord, Join, Blank, And, Or, Unary, Members, Leaf, Group, Not, One, Next, minus, between, spelled, all_spelled}
use Rattle.review_expr_terms.specs.Reading.{Read, not_read, closed, primary, unary_of, followed, more_of, members_of, unary, members}

-- what was read is spelled so
abbrev pub Spells : {A X : Type 0} → (X → List (Tok A)) → List (Tok A) → Read A X → Type 0
Spells spell ts None = Unit {0}
Spells spell ts (Some (x, rest)) = ts ≡ spell x ++ rest

not_read_sound : {A : Type 0} → (ts : List (Tok A)) (r : Read A (Unary A)) → Spells spelled ts r → Spells spelled (NotWord ∷ ts) (not_read r)
not_read_sound ts None h = tt
not_read_sound ts (Some (u, rest)) h = ap (λ xs. NotWord ∷ xs) h

closed_sound : {A : Type 0} → (negated : Bool) (ts : List (Tok A)) (r : Read A (Members A)) → Spells all_spelled ts r →
    Spells spelled (minus negated ++ (Open ∷ ts)) (closed negated r)
closed_sound negated ts None h = tt
closed_sound true ts (Some (ms, Close ∷ rest)) h = ap (λ xs. Minus ∷ Open ∷ xs) (h ∙ sym (append_assoc (all_spelled ms) (Close ∷ []) rest))
closed_sound false ts (Some (ms, Close ∷ rest)) h = ap (λ xs. Open ∷ xs) (h ∙ sym (append_assoc (all_spelled ms) (Close ∷ []) rest))
closed_sound negated ts (Some (ms, _)) h = tt

abbrev SoundAll : {A : Type 0} → (List (Tok A) → Read A (Members A)) → Type 0
SoundAll {A = A} read = (ts : List (Tok A)) → Spells all_spelled ts (read ts)

abbrev SoundOne : {A : Type 0} → (List (Tok A) → Read A (Unary A)) → Type 0
SoundOne {A = A} read = (ts : List (Tok A)) → Spells spelled ts (read ts)

primary_sound : {A : Type 0} → (negated : Bool) (all : List (Tok A) → Read A (Members A)) → SoundAll all → (ts : List (Tok A)) →
    Spells spelled (minus negated ++ ts) (primary negated all ts)
primary_sound true all h (Word a ∷ rest) = refl
primary_sound false all h (Word a ∷ rest) = refl
primary_sound negated all h (Open ∷ rest) = closed_sound negated rest (all rest) (h rest)
primary_sound negated all h _ = tt

unary_sound : {A : Type 0} → (one : List (Tok A) → Read A (Unary A)) (all : List (Tok A) → Read A (Members A)) → SoundOne one → SoundAll all →
    SoundOne (unary_of one all)
unary_sound one all h g (NotWord ∷ rest) = not_read_sound rest (one rest) (h rest)
unary_sound one all h g (Minus ∷ rest) = primary_sound true all g rest
unary_sound one all h g [] = primary_sound false all g []
unary_sound one all h g (t ∷ rest) = primary_sound false all g (t ∷ rest)

followed_sound : {A : Type 0} → (u : Unary A) (j : Join) (ts : List (Tok A)) (r : Read A (Members A)) → Spells all_spelled ts r →
    Spells all_spelled (spelled u ++ (between j ++ ts)) (followed u j r)
followed_sound u j ts None h = tt
followed_sound u j ts (Some (ms, rest)) h =
    ap (λ xs. spelled u ++ (between j ++ xs)) h ∙ ap (λ xs. spelled u ++ xs) (sym (append_assoc (between j) (all_spelled ms) rest))
    ∙ sym (append_assoc (spelled u) (between j ++ all_spelled ms) rest)

more_sound : {A : Type 0} → (all : List (Tok A) → Read A (Members A)) → SoundAll all → (u : Unary A) (ts : List (Tok A)) →
    Spells all_spelled (spelled u ++ ts) (more_of all u ts)
more_sound all h u [] = refl
more_sound all h u (Close ∷ rest) = refl
more_sound all h u (AndWord ∷ rest) = followed_sound u And rest (all rest) (h rest)
more_sound all h u (OrWord ∷ rest) = followed_sound u Or rest (all rest) (h rest)
more_sound all h u (t ∷ rest) = followed_sound u Blank (t ∷ rest) (all (t ∷ rest)) (h (t ∷ rest))

Spells-along : {A : Type 0} → (ts us : List (Tok A)) → us ≡ ts → (r : Read A (Members A)) → Spells all_spelled ts r → Spells all_spelled us r
Spells-along {A = A} ts us e r h = subst (λ (xs : List (Tok A)). Spells all_spelled xs r) (sym e) h

members_sound : {A : Type 0} → (all : List (Tok A) → Read A (Members A)) → SoundAll all → (ts : List (Tok A)) (r : Read A (Unary A)) → Spells spelled ts r →
    Spells all_spelled ts (members_of all r)
members_sound all h ts None g = tt
members_sound all h ts (Some (u, rest)) g = Spells-along _ _ g _ (more_sound all h u rest)

mutual
  unfolding unary members

  pub unary_found : {A : Type 0} → (n : ℕ) → SoundOne {A = A} (unary n)
  unary_found zero ts = tt
  unary_found (suc n) ts = unary_sound (unary n) (members n) (unary_found n) (members_found n) ts

  pub members_found : {A : Type 0} → (n : ℕ) → SoundAll {A = A} (members n)
  members_found zero ts = tt
  members_found (suc n) ts = members_sound (members n) (members_found n) ts (unary n ts) (unary_found n ts)

-- how many calls deep reading goes
abbrev mutual
  pub calls : {A : Type 0} → Unary A → ℕ
  calls (Leaf negated a) = 1
  calls (Group negated ms) = suc (all_calls ms)
  calls (Not u) = suc (calls u)

  pub all_calls : {A : Type 0} → Members A → ℕ
  all_calls (One u) = suc (calls u)
  all_calls (Next u j ms) = suc (max (calls u) (all_calls ms))

-- behind members nothing stands or a closing parenthesis
abbrev pub Ends : {A : Type 0} → List (Tok A) → Type 0
Ends [] = Unit {0}
Ends (Close ∷ rest) = Unit {0}
Ends _ = ⊥

more_ends : {A : Type 0} → (all : List (Tok A) → Read A (Members A)) (u : Unary A) (rest : List (Tok A)) → Ends rest → more_of all u rest ≡ Some (One u, rest)
more_ends all u [] h = refl
more_ends all u (Close ∷ rest) h = refl
more_ends all u _ h = absurd h

-- members begin with a sign that is no AND, OR or closing parenthesis
more_blank : {A : Type 0} → (all : List (Tok A) → Read A (Members A)) (u v : Unary A) (rest : List (Tok A)) →
    more_of all u (spelled v ++ rest) ≡ followed u Blank (all (spelled v ++ rest))
more_blank all u (Leaf true a) rest = refl
more_blank all u (Group true ms) rest = refl
more_blank all u _ rest = refl

more_next : {A : Type 0} → (all : List (Tok A) → Read A (Members A)) (u : Unary A) (j : Join) (ms : Members A) (rest : List (Tok A)) →
    more_of all u (between j ++ (all_spelled ms ++ rest)) ≡ followed u j (all (all_spelled ms ++ rest))
more_next all u Blank (One v) rest = more_blank all u v rest
more_next all u Blank (Next v j ms) rest =
    ap (more_of all u) (append_assoc (spelled v) (between j ++ all_spelled ms) rest)
    ∙ more_blank all u v ((between j ++ all_spelled ms) ++ rest)
    ∙ ap (λ xs. followed u Blank (all xs)) (sym (append_assoc (spelled v) (between j ++ all_spelled ms) rest))
more_next all u _ ms rest = refl

read_group : {A : Type 0} → (negated : Bool) (one : List (Tok A) → Read A (Unary A)) (all : List (Tok A) → Read A (Members A)) (ms : Members A) (rest : List (Tok A)) →
    all (all_spelled ms ++ (Close ∷ rest)) ≡ Some (ms, Close ∷ rest) →
    unary_of one all (spelled (Group negated ms) ++ rest) ≡ Some (Group negated ms, rest)
read_group true one all ms rest e =
    ap (λ xs. closed true (all xs)) (append_assoc (all_spelled ms) (Close ∷ []) rest) ∙ ap (closed true) e
read_group false one all ms rest e =
    ap (λ xs. closed false (all xs)) (append_assoc (all_spelled ms) (Close ∷ []) rest) ∙ ap (closed false) e

read_next : {A : Type 0} → (one : Read A (Unary A)) (all : List (Tok A) → Read A (Members A)) (u : Unary A) (j : Join) (ms : Members A) (rest : List (Tok A)) →
    one ≡ Some (u, (between j ++ all_spelled ms) ++ rest) → all (all_spelled ms ++ rest) ≡ Some (ms, rest) →
    members_of all one ≡ Some (Next u j ms, rest)
read_next one all u j ms rest e f =
    ap (members_of all) e ∙ ap (more_of all u) (append_assoc (between j) (all_spelled ms) rest)
    ∙ more_next all u j ms rest ∙ ap (followed u j) f

mutual
  unfolding unary members

  pub unary_again : {A : Type 0} → (u : Unary A) (n : ℕ) (rest : List (Tok A)) → calls u ≤ n → unary n (spelled u ++ rest) ≡ Some (u, rest)
  unary_again (Leaf negated a) zero rest le = absurd (omega arith)
  unary_again (Leaf true a) (suc n) rest le = refl
  unary_again (Leaf false a) (suc n) rest le = refl
  unary_again (Group negated ms) zero rest le = absurd (omega arith)
  unary_again (Group negated ms) (suc n) rest le =
      read_group negated (unary n) (members n) ms rest (members_again ms n (Close ∷ rest) (omega arith) tt)
  unary_again (Not u) zero rest le = absurd (omega arith)
  unary_again (Not u) (suc n) rest le = ap not_read (unary_again u n rest (omega arith))

  pub members_again : {A : Type 0} → (ms : Members A) (n : ℕ) (rest : List (Tok A)) → all_calls ms ≤ n → Ends rest → members n (all_spelled ms ++ rest) ≡ Some (ms, rest)
  members_again (One u) zero rest le end = absurd (omega arith)
  members_again (One u) (suc n) rest le end =
      ap (members_of (members n)) (unary_again u n rest (omega arith)) ∙ more_ends (members n) u rest end
  members_again (Next u j ms) zero rest le end = absurd (omega arith)
  members_again (Next u j ms) (suc n) rest le end =
      read_next (unary n (all_spelled (Next u j ms) ++ rest)) (members n) u j ms rest
      (ap (unary n) (append_assoc (spelled u) (between j ++ all_spelled ms) rest) ∙ unary_again u n _ (omega arith))
      (members_again ms n rest (omega arith) end)
