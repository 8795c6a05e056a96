-- The values of label words.
use Rattle.std.proofs.Common.{◌≡◌, ℕ, zero, suc, ◌+◌, ◌-◌, ◌<◌, ◌≤◌, List, [], ◌∷◌, ◌++◌, length, take, drop, length-append, append_assoc, append-nil, Bool, true, false, cond, Option, None, Some, refl, sym, ap, subst, ◌∙◌, arith, take-append-drop, length-take-le, ◌&&◌, nat_le, option_map, inl, inr, ◌==◌}
use Rattle.std.proofs.Math.{Bool.and-false, Seq.take-append_seam, Seq.drop-append_seam, Seq.take-append-add}
use Rattle.std.proofs.lemmas.{Bool.and_parts, Bool.Decides.nat_tests, Option.same_Some}
use Rattle.review_names.specs.{Forms.is_label, Forms.goes_on, Numerals.◌>>=◌}
use Rattle.review_expr_terms.specs.declared.terms.{Count.Count, LabelTerm.LabelTerm, Voters.Voters}
use Rattle.review_expr_spelling.proofs.Fronts.{taken_front, skip}
use Rattle.review_expr_spelling.specs.Labels.{longest_label, count_in, voters_in, one_part, two_parts, parts_by, parts_in, comparison_part, behind_comma, label_in}
use Rattle.review_expr_spelling.specs.Values.{cut_at, with_first, comparison_in}
use Rattle.review_expr_printing.proofs.LabelParts.{bind_gives, label_length, with_parts, with_asked, with_label, comparison_bare, count_bare, voters_bare, no_count, tail, cut_tail}
use Rattle.review_expr_printing.proofs.Words.{bare_comma, cut_lacking, whole_lacking}
use Rattle.review_expr_printing.specs.LabelWords.{IsLongestName, AreParts, IsLabelValue, LabelValuesAreSo}
use Rattle.review_expr_terms.specs.declared.terms.Voters.TheVariants as voters

-- ==== the longest front of a text that is a label's name

-- a longer front is none
not_longer : (name rest : List ℕ) (k : ℕ) → IsLongestName name rest
    → (nat_le (length name + suc k) (length (name ++ rest)) && is_label (take (length name + suc k) (name ++ rest))) ≡ false
not_longer name [] k h =
    let whole : length (name ++ []) ≡ length name = ap length (append-nil name) in
    let short : nat_le (length name + suc k) (length (name ++ [])) ≡ false = grind (arith, nat_tests, whole) in
    ap (λ b. b && is_label (take (length name + suc k) (name ++ []))) short
not_longer name (c ∷ r) k h =
    let front : take (length name + suc k) (name ++ c ∷ r) ≡ name ++ c ∷ take k r = take-append-add name (c ∷ r) (suc k) in
    let none = h.longest c (take k r) (drop k r) (ap (λ x. c ∷ x) (take-append-drop k r)) in
    ap (λ b. nat_le (length name + suc k) (length (name ++ c ∷ r)) && b) (ap is_label front ∙ none) ∙ and-false _

found_from : (k : ℕ) (name rest : List ℕ) → IsLongestName name rest → longest_label (length name + k) (name ++ rest) ≡ Some (name, rest)
found_from zero name rest h =
    let text = name ++ rest in
    let long : length name ≤ length text = omega (arith, length-append name rest) in
    let sure = label_length name h.is_name in
    let none : length name + 0 ≡ length name = omega arith in
    ap (λ n. longest_label n text) none
    ∙ (taken_front (length name) text sure.0 long (ap is_label (take-append_seam name rest) ∙ h.is_name)
    ∙ (λ i. Some (take-append_seam name rest i, drop-append_seam name rest i)))
found_from (suc k) name rest h =
    let text = name ++ rest in
    let next : length name + suc k ≡ suc (length name + k) = omega arith in
    ap (λ n. longest_label n text) next
    ∙ (skip (length name + k) text (subst (λ n. (nat_le n (length text) && is_label (take n text)) ≡ false) next (not_longer name rest k h))
    ∙ found_from k name rest h)

pub longest_found : (name rest : List ℕ) → IsLongestName name rest → longest_label 40 (name ++ rest) ≡ Some (name, rest)
longest_found name rest h =
    let most = (label_length name h.is_name).1 in
    let all : 40 ≡ length name + (40 - length name) = omega arith in
    ap (λ n. longest_label n (name ++ rest)) all ∙ found_from (40 - length name) name rest h

-- what is found is a front and the rest, a name, and no longer front of at most so many bytes is one
record Found (n : ℕ) (text : List ℕ) (halves : List ℕ × List ℕ) : Type 0 where
  whole : halves.0 ++ halves.1 ≡ text
  is_name : is_label halves.0 ≡ true
  longest : (m : ℕ) → length halves.0 < m → m ≤ n → m ≤ length text → is_label (take m text) ≡ false

found_by : (b : Bool) (n : ℕ) (text : List ℕ) (halves : List ℕ × List ℕ) → (nat_le (suc n) (length text) && is_label (take (suc n) text)) ≡ b
    → ((x : List ℕ × List ℕ) → longest_label n text ≡ Some x → Found n text x)
    → cond b (Some (take (suc n) text, drop (suc n) text)) (longest_label n text) ≡ Some halves → Found (suc n) text halves
found_by true n text halves is below e =
    let t = and_parts (nat_le (suc n) (length text)) (is_label (take (suc n) text)) is in
    let fits : suc n ≤ length text = let u = t.0 in grind (arith, nat_tests, u) in
    let long : length (take (suc n) text) ≡ suc n = length-take-le (suc n) text fits in
    subst (Found (suc n) text) (same_Some _ _ e) (record {
      whole = take-append-drop (suc n) text;
      is_name = t.1;
      longest = λ m more most within. absurd (omega (arith, long, more, most));
    })
found_by false n text halves is below e =
    let f = below halves e in
    record {
      whole = f.whole;
      is_name = f.is_name;
      longest = λ m more most within. shorter m more most within (nat_le m n) refl f;
    }
  where
    shorter : (m : ℕ) → length halves.0 < m → m ≤ suc n → m ≤ length text → (b : Bool) → nat_le m n ≡ b → Found n text halves → is_label (take m text) ≡ false
    shorter m more most within true t f = f.longest m more (grind (arith, nat_tests, t)) within
    shorter m more most within false t f =
        let last : m ≡ suc n = grind (arith, nat_tests, t, most) in
        let fits : nat_le (suc n) (length text) ≡ true = grind (arith, nat_tests, within, last) in
        ap (λ k. is_label (take k text)) last ∙ (sym (ap (λ c. c && is_label (take (suc n) text)) fits) ∙ is)

found : (n : ℕ) (text : List ℕ) (halves : List ℕ × List ℕ) → longest_label n text ≡ Some halves → Found n text halves
unfolding longest_label
found zero text halves e = absurd (cc)
found (suc n) text halves e = found_by (nat_le (suc n) (length text) && is_label (take (suc n) text)) n text halves refl (found n text) e

-- a name has at most 40 bytes
too_long : (s : List ℕ) (b : Bool) → nat_le (length s) 40 ≡ b → (length s ≤ 40 → is_label s ≡ false) → is_label s ≡ false
unfolding is_label
too_long s true t h = h (grind (arith, nat_tests, t))
too_long s false t h = ap (λ b. b && goes_on true s) t

pub longest_is : (text : List ℕ) (halves : List ℕ × List ℕ) → longest_label 40 text ≡ Some halves → (halves.0 ++ halves.1 ≡ text) × IsLongestName halves.0 halves.1
longest_is text halves e =
    let f = found 40 text halves e in (
      f.whole,
      record {
        is_name = f.is_name;
        longest = λ c more after is.
            let name = halves.0 ++ c ∷ more in
            let all : name ++ after ≡ text = append_assoc halves.0 (c ∷ more) after ∙ (ap (λ r. halves.0 ++ r) is ∙ f.whole) in
            let longer : length name ≡ length halves.0 + suc (length more) = length-append halves.0 (c ∷ more) in
            let within : length name ≤ length text = let l = ap length (sym all) in let m = length-append name after in omega (arith, l, m) in
            too_long name (nat_le (length name) 40) refl (λ most.
            sym (ap (λ x. is_label x) (ap (take (length name)) (sym all) ∙ take-append_seam name after))
            ∙ f.longest (length name) (omega (arith, longer)) most within);
      },
    )

-- ==== the value of a `label:` word is the name, the comparison and the parts of a label term

-- one part, which has no comma
one_read : (part : List ℕ) (who : Voters) (asked : Option Count) (c : Option Count) → cut_at 44 part ≡ None → count_in part ≡ c → one_part c part ≡ Some (who, asked) → parts_in (Some part) ≡ Some (who, asked)
unfolding parts_in
one_read part who asked c none is e = ap (λ o. parts_by o part) none ∙ (ap (λ d. one_part d part) is ∙ e)

two_read : (a b : List ℕ) (who : Voters) (asked : Option Count) (c d : Option Count) → cut_at 44 (a ++ 44 ∷ b) ≡ Some (a, b) → count_in a ≡ c → count_in b ≡ d → two_parts c d a b ≡ Some (who, asked) →
    parts_in (Some (a ++ 44 ∷ b)) ≡ Some (who, asked)
unfolding parts_in
two_read a b who asked c d cut first second e = ap (λ o. parts_by o (a ++ 44 ∷ b)) cut ∙ ((λ i. two_parts (first i) (second i) a b) ∙ e)

no_parts : parts_in None ≡ Some (voters.Everyone, None)
unfolding parts_in
no_parts = refl

-- parts that are read from a text behind a comma, or from none
abbrev AreRead : List ℕ → Voters → Option Count → Type 0
AreRead text who asked = (o : Option (List ℕ)) × (tail o ≡ text) × (parts_in o ≡ Some (who, asked))

parts_read : (text : List ℕ) (who : Voters) (asked : Option Count) → AreParts text who asked → AreRead text who asked
parts_read text who asked (inl (empty, everyone, uncounted)) = (None, sym empty, no_parts ∙ (λ i. Some (sym everyone i, sym uncounted i)))
parts_read text who asked (inr (inl (part, is, read, uncounted))) = (
  Some part,
  sym is,
  one_read part who asked None (whole_lacking 44 part (bare_comma part (voters_bare part who read))) (no_count part who read)
      (ap (option_map (λ w. (w, None))) read ∙ (λ i. Some (who, sym uncounted i))),
)
parts_read text who asked (inr (inr (inl (part, is, everyone, (n, read, counted))))) =
    (Some part, sym is, one_read part who asked (Some n) (whole_lacking 44 part (bare_comma part (count_bare part n read))) read (λ i. Some (sym everyone i, sym counted i)))
parts_read text who asked (inr (inr (inr (inl (a, b, is, read, (n, second, counted)))))) = (
  Some (a ++ 44 ∷ b),
  sym is,
  two_read a b who asked None (Some n) (cut_lacking 44 a b (bare_comma a (voters_bare a who read))) (no_count a who read) second
      (ap (option_map (λ w. (w, Some n))) read ∙ (λ i. Some (who, sym counted i))),
)
parts_read text who asked (inr (inr (inr (inr (a, b, is, (n, first, counted), read))))) = (
  Some (a ++ 44 ∷ b),
  sym is,
  two_read a b who asked (Some n) None (cut_lacking 44 a b (bare_comma a (count_bare a n first))) first (no_count b who read)
      (ap (option_map (λ w. (w, Some n))) read ∙ (λ i. Some (who, sym counted i))),
)

-- a pair that is there
pair_of : (w v : Voters) (c d : Option Count) → ◌≡◌ {A = Option (Voters × Option Count)} (Some (w, c)) (Some (v, d)) → (w ≡ v) × (c ≡ d)
pair_of w v c d e = (ap (λ o. (pair o).0) e, ap (λ o. (pair o).1) e) where
  pair : Option (Voters × Option Count) → Voters × Option Count
  pair None = (w, c)
  pair (Some p) = p

-- whose votes count, read from a part
who_of : (part : List ℕ) (o : Option Voters) (c : Option Count) (who : Voters) (asked : Option Count) → voters_in part ≡ o → option_map {U = Voters × Option Count} (λ w. (w, c)) o ≡ Some (who, asked) →
    (voters_in part ≡ Some who) × (asked ≡ c)
who_of part None c who asked is e = absurd (cc)
who_of part (Some w) c who asked is e = let p = pair_of w who c asked e in (is ∙ ap Some p.0, sym p.1)

one_told : (part : List ℕ) (c : Option Count) (who : Voters) (asked : Option Count) → count_in part ≡ c → one_part c part ≡ Some (who, asked) → AreParts (44 ∷ part) who asked
one_told part (Some n) who asked is e =
    let p = pair_of voters.Everyone who (Some n) asked e in
    inr (inr (inl (part, refl, sym p.0, (n, is, sym p.1))))
one_told part None who asked is e = let w = who_of part (voters_in part) None who asked refl e in inr (inl (part, refl, w.0, w.1))

two_told : (a b : List ℕ) (c d : Option Count) (who : Voters) (asked : Option Count) → count_in a ≡ c → count_in b ≡ d → two_parts c d a b ≡ Some (who, asked) → AreParts (44 ∷ (a ++ 44 ∷ b)) who asked
two_told a b c (Some n) who asked first second e =
    let w = who_of a (voters_in a) (Some n) who asked refl e in
    inr (inr (inr (inl (a, b, refl, w.0, (n, second, w.1)))))
two_told a b (Some n) None who asked first second e =
    let w = who_of b (voters_in b) (Some n) who asked refl e in
    inr (inr (inr (inr (a, b, refl, (n, first, w.1), w.0))))
two_told a b None None who asked first second e = absurd (cc)

-- a text is what stands before a byte, the byte, and what stands behind
abbrev pub IsCut : ℕ → List ℕ → Option (List ℕ × List ℕ) → Type 0
IsCut b s None = Unit {0}
IsCut b s (Some halves) = halves.0 ++ b ∷ halves.1 ≡ s

cut_further : (b c : ℕ) (s : List ℕ) (o : Option (List ℕ × List ℕ)) → IsCut b s o → IsCut b (c ∷ s) (option_map (with_first c) o)
cut_further b c s None h = tt
cut_further b c s (Some halves) h = ap (λ x. c ∷ x) h

cut_by : (t : Bool) (b c : ℕ) (s : List ℕ) → (c == b) ≡ t → IsCut b s (cut_at b s) → IsCut b (c ∷ s) (cond t (Some ([], s)) (option_map (with_first c) (cut_at b s)))
cut_by true b c s e h = let same : c ≡ b = grind (arith, nat_tests, e) in ap (λ x. x ∷ s) (sym same)
cut_by false b c s e h = cut_further b c s (cut_at b s) h

pub cut_is : (b : ℕ) (s : List ℕ) → IsCut b s (cut_at b s)
unfolding cut_at
cut_is b [] = tt
cut_is b (c ∷ s) = cut_by (c == b) b c s refl (cut_is b s)

parts_told_by : (o : Option (List ℕ × List ℕ)) (part : List ℕ) (who : Voters) (asked : Option Count) → IsCut 44 part o → parts_by o part ≡ Some (who, asked) → AreParts (44 ∷ part) who asked
parts_told_by None part who asked cut e = one_told part (count_in part) who asked refl e
parts_told_by (Some halves) part who asked cut e =
    subst (λ x. AreParts (44 ∷ x) who asked) cut (two_told halves.0 halves.1 (count_in halves.0) (count_in halves.1) who asked refl refl e)

parts_told : (o : Option (List ℕ)) (who : Voters) (asked : Option Count) → parts_in o ≡ Some (who, asked) → AreParts (tail o) who asked
unfolding parts_in
parts_told None who asked e = let p = pair_of voters.Everyone who None asked e in inl (refl, sym p.0, sym p.1)
parts_told (Some part) who asked e = parts_told_by (cut_at 44 part) part who asked (cut_is 44 part) e

-- what stands before the first comma and behind it
rest_by : (o : Option (List ℕ × List ℕ)) (rest : List ℕ) → IsCut 44 rest o → comparison_part o rest ++ tail (behind_comma o) ≡ rest
rest_by None rest h = append-nil rest
rest_by (Some halves) rest h = h

read_back : (text : List ℕ) (t : LabelTerm) → IsLabelValue text t → label_in text ≡ Some t
unfolding label_in
read_back text t v =
    let read = parts_read v.parts t.voters t.count v.rest in
    let o = read.0 in
    let rest : v.asked ++ tail o ≡ v.asked ++ v.parts = ap (λ x. v.asked ++ x) read.1 in
    let cut = cut_tail v.asked o (comparison_bare v.asked t.comparison v.comparison) in
    ap (λ x. longest_label 40 x >>= with_label) (sym v.text_is)
    ∙ (ap (λ x. x >>= with_label) (longest_found t.label (v.asked ++ v.parts) v.name)
    ∙ (ap (λ x. with_label (t.label, x)) (sym rest)
    ∙ (ap (λ x. comparison_in x >>= with_asked t.label (v.asked ++ tail o)) cut.0
    ∙ (ap (λ x. x >>= with_asked t.label (v.asked ++ tail o)) v.comparison
    ∙ (ap (λ x. parts_in x >>= with_parts t.label t.comparison) cut.1
    ∙ ap (λ x. x >>= with_parts t.label t.comparison) read.2)))))

value_told : (text : List ℕ) (t : LabelTerm) → label_in text ≡ Some t → IsLabelValue text t
unfolding label_in
value_told text =
    bind_gives (IsLabelValue text) (longest_label 40 text) with_label (λ halves front.
    bind_gives (IsLabelValue text) (comparison_in (comparison_part (cut_at 44 halves.1) halves.1)) (with_asked halves.0 halves.1) (λ asked compares.
    bind_gives (IsLabelValue text) (parts_in (behind_comma (cut_at 44 halves.1))) (with_parts halves.0 asked) (λ parts read t e.
    let whole = longest_is text halves front in
    let rest : comparison_part (cut_at 44 halves.1) halves.1 ++ tail (behind_comma (cut_at 44 halves.1)) ≡ halves.1 = rest_by (cut_at 44 halves.1) halves.1 (cut_is 44 halves.1) in
    let same : record { label = halves.0; comparison = asked; voters = parts.0; count = parts.1 } ≡ t = cc in
    subst (IsLabelValue text) same (record {
      asked = comparison_part (cut_at 44 halves.1) halves.1;
      parts = tail (behind_comma (cut_at 44 halves.1));
      text_is = ap (λ x. halves.0 ++ x) rest ∙ whole.0;
      name = rw rest whole.1;
      comparison = compares;
      rest = parts_told (behind_comma (cut_at 44 halves.1)) parts.0 parts.1 read;
    }))))

pub label_values : LabelValuesAreSo
label_values text t = (value_told text t, read_back text t)
