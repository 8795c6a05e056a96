-- A word is a label term exactly where it is `label:` and a text that stands for the value of that term.
use Rattle.std.proofs.Common.{◌≡◌, ℕ, List, [], ◌∷◌, ◌++◌, Bool, true, false, not, cond, Option, None, Some, option_map, refl, sym, ap, ◌∙◌, inl, inr, ◌==◌, arith, ◌&&◌, ◌≢◌, codes, bytes_eq}
use Rattle.std.proofs.Math.Bool.{and-false}
use Rattle.std.proofs.lemmas.{Bool.Decides.nat_tests, List.Folds.list_all-append, Slice.Eq.bytes_eq-Decides}
use Rattle.review_names.specs.{Forms.is_slashed_name, Forms.is_path, Names.is_word}
use Rattle.review_expr_terms.specs.{Patterns.is_pattern, Words.Reading, Words.Good}
use Rattle.review_expr_terms.specs.declared.terms.{LabelTerm.LabelTerm, RequirementTerm.RequirementTerm}
use Rattle.review_expr_spelling.specs.Labels.{label_in}
use Rattle.review_expr_spelling.specs.Values.{behind, cut_at, closed, key_and_value, unquoted, unquoted_by, is_met_by_zero}
use Rattle.review_expr_spelling.specs.Words.{◌>>=◌, in_term, in_value, unless_zero, formed, is_component, keyed, pattern_or, requirement_key, requirement_value, requirement_reading, truth_in}
use Rattle.review_expr_spelling.specs.declared.keys.RequirementKey.{RequirementKey}
use Rattle.review_expr_printing.proofs.LabelValues.{IsCut, cut_is, label_values}
use Rattle.review_expr_printing.proofs.RequirementWords.{with_key, valued}
use Rattle.review_expr_printing.proofs.Words.{lacks, cut_lacking, whole_lacking, value_lacks, keep, keep_both}
use Rattle.review_expr_printing.specs.LabelWords.{StandsFor, IsLabelWord, LabelWordsAreSo}
use Rattle.review_names.specs.Numerals as Steps
use Rattle.review_expr_terms.specs.declared.terms.RequirementTerm.TheVariants as requirement
use Rattle.review_expr_spelling.specs.declared.keys.RequirementKey.TheVariants as key

-- a value that lacks quotes, and one that no quote stands in
quote_within : (before after : List ℕ) → lacks 34 (before ++ 34 ∷ after) ≡ false
quote_within before after = list_all-append (λ c. not (c == 34)) before (34 ∷ after) ∙ and-false (lacks 34 before)

quote_free : (value : List ℕ) → lacks 34 value ≡ true → (before after : List ℕ) → before ++ (codes "\"" ++ after) ≢ value
quote_free value h before after e =
    let some : lacks 34 value ≡ false = ap (lacks 34) (sym e) ∙ quote_within before after in
    let never : false ≡ true = sym some ∙ h in
    absurd (cc)

lacks_by : (b : Bool) (c : ℕ) (s : List ℕ) → (c == 34) ≡ b → ((before after : List ℕ) → before ++ (codes "\"" ++ after) ≢ c ∷ s) → lacks 34 s ≡ true → (not b && lacks 34 s) ≡ true
lacks_by true c s is free rest = let same : 34 ≡ c = grind (arith, nat_tests, is) in absurd (free [] s (ap (λ x. x ∷ s) same))
lacks_by false c s is free rest = rest

free_lacks : (value : List ℕ) → ((before after : List ℕ) → before ++ (codes "\"" ++ after) ≢ value) → lacks 34 value ≡ true
free_lacks [] free = refl
free_lacks (c ∷ s) free =
    let rest = free_lacks s (λ before after e. free (c ∷ before) after (ap (λ x. c ∷ x) e)) in
    lacks_by (c == 34) c s refl free rest

-- the value that a text stands for is the text without its quotes
unquoted_back : (text value : List ℕ) → StandsFor text value → lacks 34 value ≡ true → unquoted text ≡ Some value
unfolding unquoted cut_at
unquoted_back text value (inl bare) h = ap unquoted bare ∙ ap (λ o. unquoted_by o value) (whole_lacking 34 value h)
unquoted_back text value (inr held) h = ap unquoted held ∙ ap closed (cut_lacking 34 value [] h)

stands_closed : (rest value : List ℕ) (o : Option (List ℕ × List ℕ)) → IsCut 34 rest o → closed o ≡ Some value → 34 ∷ rest ≡ codes "\"" ++ (value ++ codes "\"")
stands_closed rest value (Some (inner, [])) cut e = let same : inner ≡ value = cc in ap (λ x. 34 ∷ x) (sym cut ∙ ap (λ x. x ++ codes "\"") same)
stands_closed rest value _ cut e = absurd (cc)

stands_by : (text value : List ℕ) (o : Option (List ℕ × List ℕ)) → IsCut 34 text o → unquoted_by o text ≡ Some value → StandsFor text value
stands_by text value None cut e = inl (let same : text ≡ value = cc in same)
stands_by text value (Some ([], rest)) cut e = inr (sym cut ∙ stands_closed rest value (cut_at 34 rest) (cut_is 34 rest) e)
stands_by text value (Some (c ∷ cs, rest)) cut e = absurd (cc)

stands : (text value : List ℕ) → unquoted text ≡ Some value → StandsFor text value
unfolding unquoted
stands text value e = stands_by text value (cut_at 34 text) (cut_is 34 text) e

-- from the word to its reading
word_keyed : (text value : List ℕ) → StandsFor text value → lacks 34 value ≡ true → keyed (codes "label:" ++ text) ≡ Good (key.Label, value)
unfolding keyed key_and_value requirement_key
word_keyed text value s h =
    ap (λ o. in_term (Steps.◌>>=◌ o keep_both) >>= with_key) (cut_lacking 58 (codes "label") text refl)
    ∙ ap (λ o. in_term (Steps.◌>>=◌ o (keep (codes "label"))) >>= with_key) (unquoted_back text value s h)

label_valued : (value : List ℕ) (t : LabelTerm) → label_in value ≡ Some t → is_met_by_zero t.comparison ≡ false → requirement_value key.Label value ≡ Good (requirement.Label t)
unfolding requirement_value
label_valued value t is fails = rw (is, fails) refl

word_read : (word : List ℕ) (t : LabelTerm) → IsLabelWord word t → requirement_reading word ≡ Good (requirement.Label t)
unfolding requirement_reading
word_read word t w =
    ap (λ x. keyed x >>= valued) (sym w.word_is)
    ∙ (ap (λ r. r >>= valued) (word_keyed w.text w.value w.stands (free_lacks w.value w.has_no_quote))
    ∙ label_valued w.value t ((label_values w.value t).1 w.value_is) w.zero_fails)

-- from the reading to the word: no other key gives a label term
abbrev IsNoLabel : Reading RequirementTerm → Type 0
IsNoLabel r = (t : LabelTerm) → r ≢ Good (requirement.Label t)

none_valued : {A : Type 0} (f : A → RequirementTerm) (o : Option A) → ((a : A) (t : LabelTerm) → f a ≢ requirement.Label t) → IsNoLabel (in_value (option_map f o))
none_valued f None other t e = cc
none_valued f (Some a) other t e = other a t (let same : f a ≡ requirement.Label t = cc in same)

none_pattern : (o : Option (List ℕ)) (f : List ℕ → RequirementTerm) (other : Option RequirementTerm) → ((a : List ℕ) (t : LabelTerm) → f a ≢ requirement.Label t) → IsNoLabel (in_value other) → IsNoLabel (pattern_or o f other)
none_pattern None f other first second = second
none_pattern (Some re) f other first second = none_valued f (formed is_pattern re) first

none_has : (b : Bool) → IsNoLabel (in_value (cond b (Some requirement.Unresolved) None))
none_has true t e = cc
none_has false t e = cc

zero_told : (met : Bool) (u t : LabelTerm) → is_met_by_zero u.comparison ≡ met → unless_zero met (requirement.Label u) ≡ Good (requirement.Label t) → (u ≡ t) × (is_met_by_zero u.comparison ≡ false)
zero_told true u t is e = absurd (cc)
zero_told false u t is e = (let same : u ≡ t = cc in same, is)

label_told : (value : List ℕ) (o : Option LabelTerm) (t : LabelTerm) → label_in value ≡ o → (in_value o >>= (λ u. unless_zero (is_met_by_zero u.comparison) (requirement.Label u))) ≡ Good (requirement.Label t)
    → (label_in value ≡ Some t) × (is_met_by_zero t.comparison ≡ false)
label_told value None t is e = absurd (cc)
label_told value (Some u) t is e =
    let z = zero_told (is_met_by_zero u.comparison) u t refl e in
    (is ∙ ap Some z.0, ap (λ x. is_met_by_zero x.comparison) (sym z.0) ∙ z.1)

value_told : (k : RequirementKey) (value : List ℕ) (t : LabelTerm) → requirement_value k value ≡ Good (requirement.Label t) → (k ≡ key.Label) × (label_in value ≡ Some t) × (is_met_by_zero t.comparison ≡ false)
unfolding requirement_value
value_told key.Is value t e = absurd (none_valued requirement.Always (truth_in value) (λ a u same. cc) t e)
value_told key.Label value t e = let l = label_told value (label_in value) t refl e in (refl, l.0, l.1)
value_told key.UploaderIn value t e = absurd (none_valued requirement.UploaderIn (formed is_word value) (λ a u same. cc) t e)
value_told key.OwnerIn value t e = absurd (none_valued requirement.OwnerIn (formed is_word value) (λ a u same. cc) t e)
value_told key.Branch value t e =
    absurd (none_pattern (behind (codes "^") value) requirement.BranchMatches _ (λ a u same. cc) (none_valued requirement.Branch (formed is_slashed_name value) (λ a u same. cc)) t e)
value_told key.Path value t e =
    absurd (none_pattern (behind (codes "^") value) requirement.PathMatches _ (λ a u same. cc) (none_valued requirement.Path (formed is_path value) (λ a u same. cc)) t e)
value_told key.File value t e =
    absurd (none_pattern (behind (codes "^") value) requirement.PathMatches _ (λ a u same. cc) (none_valued requirement.File (formed is_component value) (λ a u same. cc)) t e)
value_told key.Has value t e = absurd (none_has (bytes_eq value (codes "unresolved")) t e)

-- the key of a label term has one name
passed : (b : Bool) (k : RequirementKey) (rest : Option RequirementKey) → k ≢ key.Label → cond b (Some k) rest ≡ Some key.Label → rest ≡ Some key.Label
passed true k rest other e = absurd (other (let same : k ≡ key.Label = cc in same))
passed false k rest other e = e

taken : (b : Bool) (rest : Option RequirementKey) → rest ≢ Some key.Label → cond b (Some key.Label) rest ≡ Some key.Label → b ≡ true
taken true rest never e = refl
taken false rest never e = absurd (never e)

label_key : (name : List ℕ) → requirement_key name ≡ Some key.Label → name ≡ codes "label"
unfolding requirement_key
label_key name e =
    let first = passed (bytes_eq name (codes "is")) key.Is _ (λ same. cc) e in
    (bytes_eq-Decides name (codes "label")).0
    (taken (bytes_eq name (codes "label")) _
    (λ e1.
    let e2 = passed (bytes_eq name (codes "uploaderin")) key.UploaderIn _ (λ same. cc) e1 in
    let e3 = passed (bytes_eq name (codes "ownerin")) key.OwnerIn _ (λ same. cc) e2 in
    let e4 = passed (bytes_eq name (codes "branch")) key.Branch _ (λ same. cc) e3 in
    let e5 = passed (bytes_eq name (codes "path")) key.Path _ (λ same. cc) e4 in
    let e6 = passed (bytes_eq name (codes "file")) key.File _ (λ same. cc) e5 in
    let e7 = passed (bytes_eq name (codes "has")) key.Has _ (λ same. cc) e6 in
    cc)
    first)

told_by_key : (word name value : List ℕ) (o : Option RequirementKey) (t : LabelTerm) → key_and_value word ≡ Some (name, value) → requirement_key name ≡ o
    → ((in_term o >>= (λ k. Good (k, value))) >>= valued) ≡ Good (requirement.Label t) → IsLabelWord word t
unfolding key_and_value
told_by_key word name value None t is named e = absurd (cc)
told_by_key word name value (Some k) t is named e =
    let v = value_told k value t e in
    let label = label_key name (named ∙ ap Some v.0) in
    of_halves (cut_at 58 word) (cut_is 58 word) label (v.1, v.2) is
  where
    by_value : (before text : List ℕ) (o : Option (List ℕ)) → before ++ 58 ∷ text ≡ word → name ≡ codes "label" → (label_in value ≡ Some t) × (is_met_by_zero t.comparison ≡ false) → unquoted text ≡ o
        → Steps.◌>>=◌ o (keep before) ≡ Some (name, value) → IsLabelWord word t
    by_value before text None cut label v at h = absurd (cc)
    by_value before text (Some x) cut label v at h =
        let fronts : Some before ≡ Some name = ap (option_map (λ p. p.0)) h in
        let front : before ≡ name = cc in
        let values : Some x ≡ Some value = ap (option_map (λ p. p.1)) h in
        let same : x ≡ value = cc in
        record {
          text = text;
          value = value;
          word_is = ap (λ y. y ++ 58 ∷ text) (sym (front ∙ label)) ∙ cut;
          stands = stands text value (at ∙ ap Some same);
          has_no_quote = quote_free value (value_lacks word name value is);
          value_is = (label_values value t).0 v.0;
          zero_fails = v.1;
        }

    of_halves : (o : Option (List ℕ × List ℕ)) → IsCut 58 word o → name ≡ codes "label" → (label_in value ≡ Some t) × (is_met_by_zero t.comparison ≡ false) → Steps.◌>>=◌ o keep_both ≡ Some (name, value) → IsLabelWord word t
    of_halves None cut label v h = absurd (cc)
    of_halves (Some halves) cut label v h = by_value halves.0 halves.1 (unquoted halves.1) cut label v refl h

told_by_halves : (word : List ℕ) (o : Option (List ℕ × List ℕ)) (t : LabelTerm) → key_and_value word ≡ o → ((in_term o >>= with_key) >>= valued) ≡ Good (requirement.Label t) → IsLabelWord word t
told_by_halves word None t is e = absurd (cc)
told_by_halves word (Some halves) t is e = told_by_key word halves.0 halves.1 (requirement_key halves.0) t is refl e

word_told : (word : List ℕ) (t : LabelTerm) → requirement_reading word ≡ Good (requirement.Label t) → IsLabelWord word t
unfolding requirement_reading keyed
word_told word t e = told_by_halves word (key_and_value word) t refl e

pub label_words : LabelWordsAreSo
label_words word t = (word_told word t, word_read word t)
