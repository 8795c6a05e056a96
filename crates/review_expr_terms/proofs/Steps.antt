-- One step of reading, as the code sees it.
use Rattle.std.proofs.Common.{◌≡◌, ◌≢◌, ℕ, zero, suc, ◌+◌, ◌-◌, max, Bool, true, false, List, [], ◌∷◌, length, Option, Some, None, option_map, refl, sym, ap, ◌∙◌, subst, arith, append_assoc}
use Rattle.std.proofs.{Math.Bool.or_assoc, Math.Bool.or-false, lemmas.Option.same_Some}
use Rattle.review_expr_terms.specs.Grammar.{Tok, Word, Open, Close, Join, Unary, Members, Group, One, Next, Tree, Neg, listed, many, tree_of, trees_of, depth, all_depth, is_mixed, any_mixed, has_and, has_or, is_and, is_or}
use Rattle.review_expr_terms.specs.Reading.{Read, not_read, closed, primary, followed, members_of, unary, members, joint, by_joint, NoSign, NotSign, MinusSign, sign, by_sign}
use Rattle.review_expr_terms.specs.{Views.Summary, Views.Sums, declared.parser.Refusal.Refusal}
use Rattle.review_expr_terms.specs.inner.Views.{Fails, capped, negated_part, seen, seen_all, summary, with_join, with_members, with_part}
use Rattle.review_expr_terms.specs.declared.parser.Refusal.TheVariants as refusal

pub listed_many : {A : Type 0} → (or : Bool) (xs : List (Tree A)) → length xs ≢ 1 → many or xs ≡ listed or xs
listed_many or (t ∷ []) h = absurd (h refl)
listed_many or _ h = refl

capped_more : (n : ℕ) → capped (capped n + 1) ≡ capped (n + 1)
capped_more n = omega arith

-- a part that was read, with NOT or a minus
abbrev pub negated_read : {A : Type 0} → Summary A × List (Tok A) → Summary A × List (Tok A)
negated_read x = (negated_part x.0, x.1)

not_map : {A : Type 0} → (r : Read A (Unary A)) → option_map seen (not_read r) ≡ option_map negated_read (option_map seen r)
not_map None = refl
not_map (Some (u, rest)) =
    ap (λ (d : ℕ). Some (record { tree = Neg (tree_of u); depth = d; mixed = is_mixed u }, rest)) (sym (capped_more (depth u)))

closed_map : {A : Type 0} → (r : Read A (Members A)) → option_map seen (closed true r) ≡ option_map negated_read (option_map seen (closed false r))
closed_map None = refl
closed_map (Some (ms, Close ∷ rest)) =
    ap (λ (d : ℕ). Some (record { tree = Neg (tree_of (Group false ms)); depth = d; mixed = is_mixed (Group false ms) }, rest)) (sym (capped_more (all_depth ms + 1)))
closed_map (Some (ms, _)) = refl

minus_map : {A : Type 0} → (all : List (Tok A) → Read A (Members A)) (ts : List (Tok A)) →
    option_map seen (primary true all ts) ≡ option_map negated_read (option_map seen (primary false all ts))
minus_map all (Word a ∷ rest) = refl
minus_map all (Open ∷ rest) = closed_map (all rest)
minus_map all _ = refl

pub unary_zero : {A : Type 0} → (n : ℕ) (ts : List (Tok A)) → n ≡ 0 → unary n ts ≡ None
unfolding unary members
unary_zero zero ts h = refl
unary_zero (suc n) ts h = absurd (omega arith)

pub members_zero : {A : Type 0} → (n : ℕ) (ts : List (Tok A)) → n ≡ 0 → members n ts ≡ None
unfolding unary members
members_zero zero ts h = refl
members_zero (suc n) ts h = absurd (omega arith)

unary_step : {A : Type 0} → (n : ℕ) (ts : List (Tok A)) → n ≢ 0 → unary n ts ≡ by_sign (unary (n - 1)) (members (n - 1)) (sign ts)
unfolding unary members
unary_step zero ts h = absurd (h refl)
unary_step (suc n) ts h =
    let e : n ≡ suc n - 1 = omega arith in ap (λ k. by_sign (unary k) (members k) (sign ts)) e

members_step : {A : Type 0} → (n : ℕ) (ts : List (Tok A)) → n ≢ 0 → members n ts ≡ members_of (members (n - 1)) (unary (n - 1) ts)
unfolding unary members
members_step zero ts h = absurd (h refl)
members_step (suc n) ts h =
    let e : n ≡ suc n - 1 = omega arith in ap (λ k. members_of (members k) (unary k ts)) e

pub at_not : {A : Type 0} → (n : ℕ) (ts rest : List (Tok A)) → n ≢ 0 → (NotSign, rest) ≡ sign ts →
    option_map seen (unary n ts) ≡ option_map negated_read (option_map seen (unary (n - 1) rest))
at_not n ts rest h e =
    ap (option_map seen) (unary_step n ts h ∙ ap (by_sign (unary (n - 1)) (members (n - 1))) (sym e)) ∙ not_map (unary (n - 1) rest)

pub at_minus : {A : Type 0} → (n : ℕ) (ts rest : List (Tok A)) → n ≢ 0 → (MinusSign, rest) ≡ sign ts →
    option_map seen (unary n ts) ≡ option_map negated_read (option_map seen (primary false (members (n - 1)) rest))
at_minus n ts rest h e =
    ap (option_map seen) (unary_step n ts h ∙ ap (by_sign (unary (n - 1)) (members (n - 1))) (sym e)) ∙ minus_map (members (n - 1)) rest

pub at_none : {A : Type 0} → (n : ℕ) (ts rest : List (Tok A)) → n ≢ 0 → (NoSign, rest) ≡ sign ts →
    option_map seen (unary n ts) ≡ option_map seen (primary false (members (n - 1)) rest)
at_none n ts rest h e =
    ap (option_map seen) (unary_step n ts h ∙ ap (by_sign (unary (n - 1)) (members (n - 1))) (sym e))

-- an error that a part gave is one of the whole
pub fails_map : {A B : Type 0} (f : A → B) (e : Refusal) (read : Option A) → Fails e read → Fails e (option_map f read)
fails_map f refusal.Memory read h = tt
fails_map f refusal.Grammar read h = ap (option_map f) h

-- ---- members

last_member : {A : Type 0} → (s : Sums A) (u : Unary A) → with_part s (summary u) ≡ with_members s (One u)
last_member s u = simp or-false

depths : (d a b : ℕ) → max (max d (capped a)) (capped b) ≡ max d (capped (max a b))
depths d a b = omega arith

next_member : {A : Type 0} → (s : Sums A) (u : Unary A) (j : Join) (ms : Members A) →
    with_members (with_join (with_part s (summary u)) j) ms ≡ with_members s (Next u j ms)
next_member s u j ms =
    rw (
      append_assoc s.trees (tree_of u ∷ []) (trees_of ms),
      or_assoc s.has_and (is_and j) (has_and ms),
      or_assoc s.has_or (is_or j) (has_or ms),
      depths s.depth (depth u) (all_depth ms),
      or_assoc s.mixed (is_mixed u) (any_mixed ms),
    ) refl

followed_map : {A : Type 0} → (s : Sums A) (u : Unary A) (j : Join) (r : Read A (Members A)) →
    option_map (seen_all s) (followed u j r) ≡ option_map (seen_all (with_join (with_part s (summary u)) j)) r
followed_map s u j None = refl
followed_map {A = A} s u j (Some (ms, rest)) = ap (λ (x : Sums A). Some (x, rest)) (sym (next_member s u j ms))

member_last : {A : Type 0} → (all : List (Tok A) → Read A (Members A)) (s : Sums A) (p : Summary A) (mid rest : List (Tok A)) (r : Read A (Unary A)) →
    option_map seen r ≡ Some (p, mid) → (None, rest) ≡ joint mid →
    option_map (seen_all s) (members_of all r) ≡ Some (with_part s p, rest)
member_last all s p mid rest None e j = cc
member_last {A = A} all s p mid rest (Some (u, m)) e j =
    let both = same_Some _ _ e in
    let same = ap (λ (x : Summary A × List (Tok A)). x.0) both in
    let at = ap (λ (x : Summary A × List (Tok A)). x.1) both in
    ap (λ x. option_map (seen_all s) (by_joint all u x)) (ap joint at ∙ sym j)
    ∙ ap (λ (x : Sums A). Some (x, rest)) (sym (last_member s u) ∙ ap (with_part s) same)

member_next : {A : Type 0} → (all : List (Tok A) → Read A (Members A)) (s : Sums A) (p : Summary A) (mid rest : List (Tok A)) (k : Join) (r : Read A (Unary A)) →
    option_map seen r ≡ Some (p, mid) → (Some k, rest) ≡ joint mid →
    option_map (seen_all s) (members_of all r) ≡ option_map (seen_all (with_join (with_part s p) k)) (all rest)
member_next all s p mid rest k None e j = cc
member_next {A = A} all s p mid rest k (Some (u, m)) e j =
    let both = same_Some _ _ e in
    let same = ap (λ (x : Summary A × List (Tok A)). x.0) both in
    let at = ap (λ (x : Summary A × List (Tok A)). x.1) both in
    ap (λ x. option_map (seen_all s) (by_joint all u x)) (ap joint at ∙ sym j)
    ∙ followed_map s u k (all rest)
    ∙ ap (λ (x : Summary A). option_map (seen_all (with_join (with_part s x) k)) (all rest)) same

member_fails : {A : Type 0} → (all : List (Tok A) → Read A (Members A)) (s : Sums A) (e : Refusal) (r : Read A (Unary A)) →
    Fails e (option_map seen r) → Fails e (option_map (seen_all s) (members_of all r))
member_fails all s refusal.Memory r h = tt
member_fails all s refusal.Grammar None h = refl
member_fails all s refusal.Grammar (Some x) h = cc

pub at_last : {A : Type 0} → (n : ℕ) (ts : List (Tok A)) (s : Sums A) (p : Summary A) (mid rest : List (Tok A)) → n ≢ 0 →
    option_map seen (unary (n - 1) ts) ≡ Some (p, mid) → (None, rest) ≡ joint mid →
    option_map (seen_all s) (members n ts) ≡ Some (with_part s p, rest)
at_last n ts s p mid rest h e j =
    ap (option_map (seen_all s)) (members_step n ts h) ∙ member_last (members (n - 1)) s p mid rest (unary (n - 1) ts) e j

pub at_next : {A : Type 0} → (n : ℕ) (ts : List (Tok A)) (s : Sums A) (p : Summary A) (mid rest : List (Tok A)) (k : Join) → n ≢ 0 →
    option_map seen (unary (n - 1) ts) ≡ Some (p, mid) → (Some k, rest) ≡ joint mid →
    option_map (seen_all s) (members n ts) ≡ option_map (seen_all (with_join (with_part s p) k)) (members (n - 1) rest)
at_next n ts s p mid rest k h e j =
    ap (option_map (seen_all s)) (members_step n ts h) ∙ member_next (members (n - 1)) s p mid rest k (unary (n - 1) ts) e j

pub at_failing : {A : Type 0} → (n : ℕ) (ts : List (Tok A)) (s : Sums A) (e : Refusal) → n ≢ 0 →
    Fails e (option_map seen (unary (n - 1) ts)) → Fails e (option_map (seen_all s) (members n ts))
at_failing {A = A} n ts s e h f =
    subst (λ (x : Read A (Members A)). Fails e (option_map (seen_all s) x)) (sym (members_step n ts h)) (member_fails (members (n - 1)) s e (unary (n - 1) ts) f)
