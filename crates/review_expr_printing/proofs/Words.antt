-- Words: what they lack, how they stand in an expression, and how they are written.
use Rattle.std.proofs.Common.{◌≡◌, ℕ, ◌==◌, List, [], ◌∷◌, ◌++◌, Bool, true, false, not, cond, Option, None, Some, option_map, refl, ap, subst, ◌∙◌, ◌&&◌, codes, zero, suc, ◌+◌, ◌<◌, ◌≤◌, ℤ, pos, negsuc, map, IfSome, sym, arith, nat_le, bytes_eq}
use Rattle.std.proofs.lemmas.Bool.{or_parts, not-true, false_from_ne_true, and_parts, Decides.nat_tests}
use Rattle.std.proofs.lemmas.{Int.Digits.all_below_base_digits_of, List.Folds.list_all-append}
use Rattle.std.proofs.lemmas.Slice.Eq.{bytes_eq-Decides}
use Rattle.std.specs.List.{list_all, list_any, AllByRecursion}
use Rattle.review_names.proofs.Numerals.{number_back}
use Rattle.review_names.specs.Numerals.{◌>>=◌, shown_digits, numeral}
use Rattle.review_expr_terms.specs.Lexemes.{is_end, runs}
use Rattle.review_expr_terms.specs.declared.terms.{Comparison.Comparison, VoteValue.VoteValue}
use Rattle.review_expr_spelling.proofs.Cutting.{same, behind_back}
use Rattle.review_expr_spelling.proofs.Digits.{digits_small, up_to_99, up_some}
use Rattle.review_expr_spelling.specs.Values.{cut_at, with_first, closed, unquoted_by, unquoted, key_and_value, behind, by_front, digits_in, negative, number_in, vote_in, equal_to, comparison_in}
use Rattle.review_expr_printing.specs.Written.{quoted, word_of, number_text, vote_text, comparison_text}
use Rattle.std.specs.Int.Digits as Digits
use Rattle.review_expr_terms.specs.declared.terms.VoteValue.TheVariants as value
use Rattle.review_expr_terms.specs.declared.terms.Comparison.TheVariants as comparison

-- ==== texts that lack a byte, and words written of a key and a value

abbrev pub lacks : ℕ → List ℕ → Bool
lacks b = list_all (λ c. not (c == b))

pub cut_lacking : (b : ℕ) (xs ys : List ℕ) → lacks b xs ≡ true → cut_at b (xs ++ b ∷ ys) ≡ Some (xs, ys)
unfolding cut_at
cut_lacking b [] ys h = rw (same b) refl
cut_lacking b (c ∷ xs) ys h =
    let p = and_parts (not (c == b)) (lacks b xs) h in
    rw (not-true (c == b) p.0) (ap (option_map (with_first c)) (cut_lacking b xs ys p.1))

pub whole_lacking : (b : ℕ) (s : List ℕ) → lacks b s ≡ true → cut_at b s ≡ None
unfolding cut_at
whole_lacking b [] h = refl
whole_lacking b (c ∷ s) h =
    let p = and_parts (not (c == b)) (lacks b s) h in
    rw (not-true (c == b) p.0) (ap (option_map (with_first c)) (whole_lacking b s p.1))

-- what is cut off in front lacks the byte
abbrev LacksFront : ℕ → List ℕ → Option (List ℕ × List ℕ) → Type 0
LacksFront b s None = lacks b s ≡ true
LacksFront b s (Some halves) = lacks b halves.0 ≡ true

longer : (b c : ℕ) (s : List ℕ) (o : Option (List ℕ × List ℕ)) → (c == b) ≡ false → LacksFront b s o → LacksFront b (c ∷ s) (option_map (with_first c) o)
longer b c s None e h = rw e h
longer b c s (Some halves) e h = rw e h

front_by : (t : Bool) (b c : ℕ) (s : List ℕ) → (c == b) ≡ t → LacksFront b s (cut_at b s) → LacksFront b (c ∷ s) (cond t (Some ([], s)) (option_map (with_first c) (cut_at b s)))
front_by true b c s e h = refl
front_by false b c s e h = longer b c s (cut_at b s) e h

front_lacks : (b : ℕ) (s : List ℕ) → LacksFront b s (cut_at b s)
unfolding cut_at
front_lacks b [] = refl
front_lacks b (c ∷ s) = front_by (c == b) b c s refl (front_lacks b s)

closed_lacks : (b : ℕ) (s x : List ℕ) (o : Option (List ℕ × List ℕ)) → LacksFront b s o → closed o ≡ Some x → lacks b x ≡ true
closed_lacks b s x (Some (inner, [])) h e = let same : inner ≡ x = cc in subst (λ y. lacks b y ≡ true) same h
closed_lacks b s x _ h e = absurd (cc)

unquoted_by_lacks : (s x : List ℕ) (o : Option (List ℕ × List ℕ)) → LacksFront 34 s o → unquoted_by o s ≡ Some x → lacks 34 x ≡ true
unquoted_by_lacks s x None h e = let same : s ≡ x = cc in subst (λ y. lacks 34 y ≡ true) same h
unquoted_by_lacks s x (Some ([], rest)) h e = closed_lacks 34 rest x (cut_at 34 rest) (front_lacks 34 rest) e
unquoted_by_lacks s x (Some (c ∷ cs, rest)) h e = absurd (cc)

-- a value has no quotes left
pub unquoted_lacks : (s x : List ℕ) → unquoted s ≡ Some x → lacks 34 x ≡ true
unfolding unquoted
unquoted_lacks s x e = unquoted_by_lacks s x (cut_at 34 s) (front_lacks 34 s) e

unquoted_of : (b : Bool) (x : List ℕ) → lacks 34 x ≡ true → unquoted (cond b (codes "\"" ++ (x ++ codes "\"")) x) ≡ Some x
unfolding unquoted cut_at
unquoted_of true x h = ap closed (cut_lacking 34 x [] h)
unquoted_of false x h = ap (λ o. unquoted_by o x) (whole_lacking 34 x h)

pub quoted_back : (x : List ℕ) → lacks 34 x ≡ true → unquoted (quoted x) ≡ Some x
unfolding quoted
quoted_back x h = unquoted_of (list_any is_end x) x h

abbrev pub keep : List ℕ → List ℕ → Option (List ℕ × List ℕ)
keep name value = Some (name, value)

abbrev pub keep_both : List ℕ × List ℕ → Option (List ℕ × List ℕ)
keep_both halves = unquoted halves.1 >>= keep halves.0

-- the key and the value of a word that was written of them
pub word_back : (name x : List ℕ) → lacks 58 name ≡ true → lacks 34 x ≡ true → key_and_value (word_of name x) ≡ Some (name, x)
unfolding key_and_value word_of
word_back name x key h =
    ap (λ o. o >>= keep_both) (cut_lacking 58 name (quoted x) key) ∙ ap (λ o. o >>= keep name) (quoted_back x h)

value_of : (o : Option (List ℕ)) (name key x : List ℕ) → o >>= keep name ≡ Some (key, x) → o ≡ Some x
value_of None name key x e = absurd (cc)
value_of (Some y) name key x e = ap (option_map (λ halves. halves.1)) e

halves_of : (o : Option (List ℕ × List ℕ)) (key x : List ℕ) → o >>= keep_both ≡ Some (key, x) → lacks 34 x ≡ true
halves_of None key x e = absurd (cc)
halves_of (Some halves) key x e = unquoted_lacks halves.1 x (value_of (unquoted halves.1) halves.0 key x e)

-- the value of a word has no quotes
pub value_lacks : (word key x : List ℕ) → key_and_value word ≡ Some (key, x) → lacks 34 x ≡ true
unfolding key_and_value
value_lacks word key x e = halves_of (cut_at 58 word) key x e

-- neither a quote nor a comma
abbrev pub bare : List ℕ → Bool
bare = list_all (λ c. not (c == 34) && not (c == 44))

pub bare_both : (xs ys : List ℕ) → bare xs ≡ true → bare ys ≡ true → bare (xs ++ ys) ≡ true
bare_both xs ys p q = list_all-append _ xs ys ∙ (λ i. p i && q i)

pub lacks_both : (b : ℕ) (xs ys : List ℕ) → lacks b xs ≡ true → lacks b ys ≡ true → lacks b (xs ++ ys) ≡ true
lacks_both b xs ys p q = list_all-append _ xs ys ∙ (λ i. p i && q i)

pub bare_quote : (s : List ℕ) → bare s ≡ true → lacks 34 s ≡ true
bare_quote [] h = refl
bare_quote (c ∷ s) h =
    let p = and_parts (not (c == 34) && not (c == 44)) (bare s) h in
    let q = and_parts (not (c == 34)) (not (c == 44)) p.0 in
    (λ i. q.0 i && bare_quote s p.1 i)

pub bare_comma : (s : List ℕ) → bare s ≡ true → lacks 44 s ≡ true
bare_comma [] h = refl
bare_comma (c ∷ s) h =
    let p = and_parts (not (c == 34) && not (c == 44)) (bare s) h in
    let q = and_parts (not (c == 34)) (not (c == 44)) p.0 in
    (λ i. q.1 i && bare_comma s p.1 i)

-- ==== written words stand as one word in an expression; and words with a minus in front are no terms

-- within quotes anything runs on to the closing quote
within : (s : List ℕ) → lacks 34 s ≡ true → runs true (s ++ codes "\"") ≡ true
within [] h = refl
within (c ∷ s) h =
    let p = and_parts (not (c == 34)) (lacks 34 s) h in
    ap (λ b. runs (not b) (s ++ codes "\"")) (not-true (c == 34) p.0) ∙ within s p.1

-- without white space, parentheses and quotes a text runs on
plainly : (s : List ℕ) → lacks 34 s ≡ true → list_any is_end s ≡ false → runs false s ≡ true
plainly [] h free = refl
plainly (c ∷ s) h free =
    let p = and_parts (not (c == 34)) (lacks 34 s) h in
    let q = or_parts (is_end c) (list_any is_end s) free in
    ap (λ b. not b && runs (c == 34) s) q.0 ∙ (ap (λ b. runs b s) (not-true (c == 34) p.0) ∙ plainly s p.1 q.1)

quoted_by : (b : Bool) (s : List ℕ) → list_any is_end s ≡ b → lacks 34 s ≡ true → runs false (cond b (codes "\"" ++ (s ++ codes "\"")) s) ≡ true
quoted_by true s free h = within s h
quoted_by false s free h = plainly s h free

pub quoted_runs : (s : List ℕ) → lacks 34 s ≡ true → runs false (quoted s) ≡ true
unfolding quoted
quoted_runs s h = quoted_by (list_any is_end s) s refl h

-- ==== numbers, votes and comparisons, written and read again

-- a digit, or with 45 for 48 also a minus
abbrev is_in : ℕ → ℕ → Bool
is_in low c = nat_le low c && nat_le c 57

abbrev pub all_in : ℕ → List ℕ → Bool
all_in low = list_all (is_in low)

in_map : (ds : List ℕ) → AllByRecursion (λ d. d < 10) ds → all_in 48 (map (λ x. 48 + x) ds) ≡ true
in_map [] h = refl
in_map (d ∷ ds) h = let low = h.0 in let t : is_in 48 (48 + d) ≡ true = grind (arith, nat_tests, low) in (λ i. t i && in_map ds h.1 i)

in_shown : (ds : List ℕ) → AllByRecursion (λ d. d < 10) ds → all_in 48 (shown_digits ds) ≡ true
in_shown [] h = refl
in_shown (d ∷ ds) h = in_map (d ∷ ds) h

pub in_numeral : (n : ℕ) → all_in 48 (numeral n) ≡ true
unfolding numeral
in_numeral n = in_shown (Digits.digits_of 10 n) (all_below_base_digits_of 10 n (omega arith))

wider : (s : List ℕ) → all_in 48 s ≡ true → all_in 45 s ≡ true
wider [] h = refl
wider (c ∷ s) h = let p = and_parts (is_in 48 c) (all_in 48 s) h in let q = p.0 in let t : is_in 45 c ≡ true = grind (arith, nat_tests, q) in (λ i. t i && wider s p.1 i)

in_number : (z : ℤ) → all_in 45 (number_text z) ≡ true
unfolding number_text
in_number (pos n) = wider (numeral n) (in_numeral n)
in_number (negsuc n) = wider (numeral (suc n)) (in_numeral (suc n))

pub bare_in : (s : List ℕ) → all_in 45 s ≡ true → bare s ≡ true
bare_in [] h = refl
bare_in (c ∷ s) h =
    let p = and_parts (is_in 45 c) (all_in 45 s) h in
    let q = p.0 in
    let t : (not (c == 34) && not (c == 44)) ≡ true = grind (arith, nat_tests, q) in
    (λ i. t i && bare_in s p.1 i)

pub bare_numeral : (n : ℕ) → bare (numeral n) ≡ true
bare_numeral n = bare_in (numeral n) (wider (numeral n) (in_numeral n))

-- such a text begins with no other byte
pub behind_in : (low f : ℕ) (fs s : List ℕ) → is_in low f ≡ false → all_in low s ≡ true → behind (f ∷ fs) s ≡ None
unfolding behind
behind_in low f fs [] e h = refl
behind_in low f fs (c ∷ s) e h =
    let p = (and_parts (is_in low c) (all_in low s) h).0 in
    let t : (f == c) ≡ false = grind (arith, nat_tests, p, e) in
    rw t refl

-- and is no word that does
pub differs : (low c : ℕ) (cs s : List ℕ) → is_in low c ≡ false → all_in low s ≡ true → bytes_eq s (c ∷ cs) ≡ false
differs low c cs s e h = false_from_ne_true (bytes_eq s (c ∷ cs)) (λ t.
    let same : all_in low (c ∷ cs) ≡ true = subst (λ x. all_in low x ≡ true) ((bytes_eq-Decides s (c ∷ cs)).0 t) h in
    let p = (and_parts (is_in low c) (all_in low cs) same).0 in
    let never : false ≡ true = sym e ∙ p in
    cc)

pub digits_back : (n : ℕ) → n ≤ 99 → digits_in (numeral n) ≡ Some n
unfolding digits_in
digits_back n h = ap up_to_99 (number_back n (omega arith)) ∙ up_some n h

abbrev pub IsSmall : ℤ → Type 0
IsSmall (pos n) = n ≤ 99
IsSmall (negsuc n) = suc n ≤ 99

pub number_again : (z : ℤ) → IsSmall z → number_in (number_text z) ≡ Some z
unfolding number_in number_text
number_again (pos n) h =
    rw (behind_in 48 45 [] (numeral n) refl (in_numeral n), behind_in 48 43 [] (numeral n) refl (in_numeral n), digits_back n h) refl
number_again (negsuc n) h = rw (behind_back (codes "-") (numeral (suc n)), digits_back (suc n) h) refl

-- what a choice by a front gives
pub front_gives : {A : Type 0} (P : A → Type 0) (o : Option (List ℕ)) (read : List ℕ → Option A) (otherwise : Option A)
    → ((r : List ℕ) (a : A) → read r ≡ Some a → P a) → ((a : A) → otherwise ≡ Some a → P a) → (a : A) → by_front o read otherwise ≡ Some a → P a
front_gives P (Some r) read otherwise found fails a e = found r a e
front_gives P None read otherwise found fails a e = fails a e

pub test_gives : {A : Type 0} (P : A → Type 0) (b : Bool) (x y : Option A) → ((a : A) → x ≡ Some a → P a) → ((a : A) → y ≡ Some a → P a) → (a : A) → cond b x y ≡ Some a → P a
test_gives P true x y met unmet a e = met a e
test_gives P false x y met unmet a e = unmet a e

pub map_gives : {A B : Type 0} (P : B → Type 0) (f : A → B) (o : Option A) → ((a : A) → o ≡ Some a → P (f a)) → (b : B) → option_map f o ≡ Some b → P b
map_gives P f None h b e = absurd (cc)
map_gives P f (Some a) h b e = let same : f a ≡ b = cc in subst P same (h a refl)

pub none_gives : {A : Type 0} (P : A → Type 0) (a : A) → ◌≡◌ {A = Option A} None (Some a) → P a
none_gives P a e = absurd (cc)

small_digits : (cs : List ℕ) (n : ℕ) → digits_in cs ≡ Some n → n ≤ 99
small_digits cs n e = subst (λ o. IfSome o (λ m. m ≤ 99)) e (digits_small cs)

small_negative : (n : ℕ) → n ≤ 99 → IsSmall (negative n)
small_negative zero h = omega arith
small_negative (suc n) h = h

pub small_number : (x : List ℕ) (z : ℤ) → number_in x ≡ Some z → IsSmall z
unfolding number_in
small_number x =
    front_gives IsSmall _ _ _ (λ r. map_gives IsSmall negative (digits_in r) (λ n e. small_negative n (small_digits r n e)))
    (front_gives IsSmall _ _ _ (λ r. map_gives IsSmall pos (digits_in r) (λ n e. small_digits r n e))
    (map_gives IsSmall pos (digits_in x) (λ n e. small_digits x n e)))

abbrev pub IsSmallVote : VoteValue → Type 0
IsSmallVote (value.Exactly z) = IsSmall z
IsSmallVote _ = Unit {0}

is_some_vote : (v w : VoteValue) → IsSmallVote v → ◌≡◌ {A = Option VoteValue} (Some v) (Some w) → IsSmallVote w
is_some_vote v w h e = let same : v ≡ w = cc in subst IsSmallVote same h

pub small_vote : (x : List ℕ) (v : VoteValue) → vote_in x ≡ Some v → IsSmallVote v
unfolding vote_in
small_vote x =
    test_gives IsSmallVote _ _ _ (λ v. is_some_vote value.Max v tt)
    (test_gives IsSmallVote _ _ _ (λ v. is_some_vote value.Min v tt)
    (test_gives IsSmallVote _ _ _ (λ v. is_some_vote value.Any v tt)
    (map_gives IsSmallVote value.Exactly (number_in x) (λ z. small_number x z))))

pub vote_again : (v : VoteValue) → IsSmallVote v → vote_in (vote_text v) ≡ Some v
unfolding vote_in
vote_again (value.Exactly z) h =
    rw (differs 45 77 (codes "AX") (number_text z) refl (in_number z), differs 45 77 (codes "IN") (number_text z) refl (in_number z), differs 45 65 (codes "NY") (number_text z) refl (in_number z), number_again z h) refl
vote_again _ h = refl

pub bare_vote : (v : VoteValue) → bare (vote_text v) ≡ true
bare_vote (value.Exactly z) = bare_in (number_text z) (in_number z)
bare_vote _ = refl

abbrev pub IsSmallComparison : Comparison → Type 0
IsSmallComparison (comparison.Is asked) = IsSmallVote asked
IsSmallComparison (comparison.AtLeast z) = IsSmall z
IsSmallComparison (comparison.Above z) = IsSmall z
IsSmallComparison (comparison.AtMost z) = IsSmall z
IsSmallComparison (comparison.Below z) = IsSmall z

pub small_comparison : (x : List ℕ) (c : Comparison) → comparison_in x ≡ Some c → IsSmallComparison c
unfolding comparison_in
small_comparison x =
    let P : Comparison → Type 0 = IsSmallComparison in
    front_gives P _ _ _ (λ r. map_gives P comparison.Is (vote_in r) (small_vote r))
    (front_gives P _ _ _ (λ r. map_gives P comparison.AtLeast (number_in r) (small_number r))
    (front_gives P _ _ _ (λ r. map_gives P comparison.Above (number_in r) (small_number r))
    (front_gives P _ _ _ (λ r. map_gives P comparison.AtMost (number_in r) (small_number r))
    (front_gives P _ _ _ (λ r. map_gives P comparison.Below (number_in r) (small_number r))
    (front_gives P _ _ _ (λ r. map_gives P (λ n. equal_to (pos n)) (digits_in r) (λ n e. small_digits r n e))
    (front_gives P _ _ _ (λ r. map_gives P (λ n. equal_to (negative n)) (digits_in r) (λ n e. small_negative n (small_digits r n e)))
    (none_gives P)))))))

pub comparison_again : (c : Comparison) → IsSmallComparison c → comparison_in (comparison_text c) ≡ Some c
unfolding comparison_in behind
comparison_again (comparison.Is asked) h = ap (option_map comparison.Is) (vote_again asked h)
comparison_again (comparison.AtLeast z) h = ap (option_map comparison.AtLeast) (number_again z h)
comparison_again (comparison.Above z) h = rw (behind_in 45 61 [] (number_text z) refl (in_number z)) (ap (option_map comparison.Above) (number_again z h))
comparison_again (comparison.AtMost z) h = ap (option_map comparison.AtMost) (number_again z h)
comparison_again (comparison.Below z) h = rw (behind_in 45 61 [] (number_text z) refl (in_number z)) (ap (option_map comparison.Below) (number_again z h))

pub bare_comparison : (c : Comparison) → bare (comparison_text c) ≡ true
bare_comparison (comparison.Is asked) = bare_vote asked
bare_comparison (comparison.AtLeast z) = bare_in (number_text z) (in_number z)
bare_comparison (comparison.Above z) = bare_in (number_text z) (in_number z)
bare_comparison (comparison.AtMost z) = bare_in (number_text z) (in_number z)
bare_comparison (comparison.Below z) = bare_in (number_text z) (in_number z)
