-- What the whole of the tokens gives.
use Rattle.std.proofs.Common.{◌≡◌, ◌≢◌, ℕ, ◌+◌, ◌*◌, ◌≤◌, true, false, List, [], ◌∷◌, ◌++◌, length, Some, None, option_map, refl, sym, ap, ◌∙◌, subst, arith, length-append}
use Rattle.std.proofs.lemmas.Option.{same_Some}
use Rattle.review_expr_terms.proofs.Grammatical.{calls, all_calls, members_again, members_found, Spells}
use Rattle.review_expr_terms.specs.Grammar.{Tok, Unary, Members, Leaf, Group, Not, One, Next, between, spelled, all_spelled, all_depth, tree, mixed}
use Rattle.review_expr_terms.specs.{Reading.Read, Reading.members, Views.Summary, Views.Sums, Views.whole}
use Rattle.review_expr_terms.specs.inner.Views.{capped, no_sums, seen_all, with_members}

append_none : {A : Type 0} → (xs : List (Tok A)) → xs ++ [] ≡ xs
append_none [] = refl
append_none (x ∷ xs) = ap (λ ys. x ∷ ys) (append_none xs)

mutual
  calls_within : {A : Type 0} → (u : Unary A) → calls u + 1 ≤ 2 * length (spelled u)
  calls_within (Leaf true a) = omega arith
  calls_within (Leaf false a) = omega arith
  calls_within (Group true ms) = omega (arith, all_calls_within ms, length-append (all_spelled ms) (Tok.Close ∷ []))
  calls_within (Group false ms) = omega (arith, all_calls_within ms, length-append (all_spelled ms) (Tok.Close ∷ []))
  calls_within (Not u) = omega (arith, calls_within u)

  all_calls_within : {A : Type 0} → (ms : Members A) → all_calls ms ≤ 2 * length (all_spelled ms)
  all_calls_within (One u) = omega (arith, calls_within u)
  all_calls_within (Next u j ms) =
      omega (arith, calls_within u, all_calls_within ms, length-append (spelled u) (between j ++ all_spelled ms), length-append (between j) (all_spelled ms))

abbrev fuel : {A : Type 0} → List (Tok A) → ℕ
fuel ts = 2 * length ts + 1

pub read_whole : {A : Type 0} → (ms : Members A) (n : ℕ) → n ≡ fuel (all_spelled ms) → members n (all_spelled ms) ≡ Some (ms, [])
read_whole ms n e =
    ap (members n) (sym (append_none (all_spelled ms))) ∙ members_again ms n [] (omega (arith, all_calls_within ms)) tt

-- where reading fails, or leaves some tokens, no members are spelled so
pub none_fails : {A : Type 0} → (ts : List (Tok A)) (n : ℕ) (s : Sums A) → option_map (seen_all s) (members n ts) ≡ None → n ≡ fuel ts →
    (ms : Members A) → all_spelled ms ≢ ts
none_fails {A = A} ts n s f e ms same =
    let again : members n ts ≡ Some (ms, []) = subst (λ (xs : List (Tok A)). members n xs ≡ Some (ms, [])) same (read_whole ms n (e ∙ ap fuel (sym same))) in
    let g = sym f ∙ ap (option_map (seen_all s)) again in cc

pub none_left : {A : Type 0} → (ts : List (Tok A)) (n : ℕ) (s t : Sums A) (rest : List (Tok A)) → option_map (seen_all s) (members n ts) ≡ Some (t, rest) →
    n ≡ fuel ts → length rest ≢ 0 → (ms : Members A) → all_spelled ms ≢ ts
none_left {A = A} ts n s t rest f e some ms same =
    let again : members n ts ≡ Some (ms, []) = subst (λ (xs : List (Tok A)). members n xs ≡ Some (ms, [])) same (read_whole ms n (e ∙ ap fuel (sym same))) in
    let g = same_Some _ _ (sym f ∙ ap (option_map (seen_all s)) again) in
    some (ap (λ (x : Sums A × List (Tok A)). length x.1) g)

-- the members that were found, and what was kept of them
pub record Found {A : Type 0} (ts : List (Tok A)) (p : Summary A) : Type 0 where
  pub all : Members A
  pub spelling : all_spelled all ≡ ts
  pub tree_is : tree all ≡ p.tree
  pub depth_is : p.depth ≡ capped (all_depth all)
  pub mixed_is : mixed all ≡ p.mixed

kept : {A : Type 0} → (ts : List (Tok A)) (ms : Members A) (s : Sums A) (p : Summary A) → all_spelled ms ≡ ts → with_members no_sums ms ≡ s → p ≡ whole s → Found ts p
kept {A = A} ts ms s p e f g =
    let h = g ∙ ap whole (sym f) in record {
      all = ms;
      spelling = e;
      tree_is = sym (ap (λ (x : Summary A). x.tree) h);
      depth_is = ap (λ (x : Summary A). x.depth) h ∙ omega arith;
      mixed_is = sym (ap (λ (x : Summary A). x.mixed) h);
    }

found_of : {A : Type 0} → (ts : List (Tok A)) (s : Sums A) (rest : List (Tok A)) (p : Summary A) (r : Read A (Members A)) → Spells all_spelled ts r →
    option_map (seen_all no_sums) r ≡ Some (s, rest) → length rest ≡ 0 → p ≡ whole s → Found ts p
found_of ts s rest p None h e l g = cc
found_of {A = A} ts s rest p (Some (ms, after)) h e l g =
    let both = same_Some _ _ e in
    let at = ap (λ (x : Sums A × List (Tok A)). x.1) both in
    let none = empty after (ap length at ∙ l) in
    kept ts ms s p (sym (h ∙ ap (λ xs. all_spelled ms ++ xs) none ∙ append_none (all_spelled ms))) (ap (λ (x : Sums A × List (Tok A)). x.0) both) g
  where
    empty : {A : Type 0} → (xs : List (Tok A)) → length xs ≡ 0 → xs ≡ []
    empty [] q = refl
    empty (x ∷ xs) q = absurd (omega (arith, q))

pub found : {A : Type 0} → (ts : List (Tok A)) (n : ℕ) (s : Sums A) (rest : List (Tok A)) (p : Summary A) →
    option_map (seen_all no_sums) (members n ts) ≡ Some (s, rest) → length rest ≡ 0 → p ≡ whole s → Found ts p
found ts n s rest p e l g = found_of ts s rest p (members n ts) (members_found n ts) e l g

-- no tokens spell two lists of members
pub one_spelling : {A : Type 0} → (a b : Members A) → all_spelled a ≡ all_spelled b → a ≡ b
one_spelling {A = A} a b e =
    let f = subst (λ (xs : List (Tok A)). members (fuel xs) xs ≡ Some (a, [])) e (read_whole a _ refl) in
    ap (λ (x : Members A × List (Tok A)). x.0) (same_Some _ _ (sym f ∙ read_whole b _ refl))
