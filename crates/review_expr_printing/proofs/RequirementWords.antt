-- The words of submit requirements, read again.
use Rattle.std.proofs.Common.{◌≡◌, List, ◌∷◌, ◌++◌, ℕ, Option, None, Some, Bool, true, false, cond, option_map, refl, sym, ap, subst, ◌∙◌, codes, bytes_eq}
use Rattle.review_names.specs.{Forms.is_slashed_name, Forms.is_path, Names.is_word}
use Rattle.review_expr_terms.specs.{Patterns.is_pattern, Words.NoTerm, Words.Reading, Words.Good, Words.Bad}
use Rattle.review_expr_terms.specs.declared.terms.{LabelTerm.LabelTerm, RequirementTerm.RequirementTerm}
use Rattle.review_expr_spelling.{proofs.Cutting.behind_front, specs.Labels.label_in}
use Rattle.review_expr_spelling.specs.Values.{behind, cut_at, key_and_value, unquoted, with_first, is_met_by_zero}
use Rattle.review_expr_spelling.specs.Words.{◌>>=◌, in_term, in_value, unless_zero, formed, is_component, keyed, pattern_or, requirement_key, requirement_value, requirement_reading, truth_in}
use Rattle.review_expr_spelling.specs.declared.keys.RequirementKey.{RequirementKey}
use Rattle.review_expr_printing.proofs.CopyWords.{value_good, formed_good}
use Rattle.review_expr_printing.proofs.LabelParts.{label_again, label_of_form, label_lacks}
use Rattle.review_expr_printing.proofs.Words.{lacks, word_back, value_lacks, keep, keep_both, quoted_runs}
use Rattle.review_expr_printing.specs.Written.{label_text, word_of, requirement_word, IsOneWord}
use Rattle.review_names.specs.Numerals as Steps
use Rattle.review_expr_terms.specs.declared.terms.RequirementTerm.TheVariants as requirement
use Rattle.review_expr_spelling.specs.declared.keys.RequirementKey.TheVariants as of_requirement

name : RequirementKey → List ℕ
name of_requirement.Is = codes "is"
name of_requirement.Label = codes "label"
name of_requirement.UploaderIn = codes "uploaderin"
name of_requirement.OwnerIn = codes "ownerin"
name of_requirement.Branch = codes "branch"
name of_requirement.Path = codes "path"
name of_requirement.File = codes "file"
name of_requirement.Has = codes "has"

name_back : (key : RequirementKey) → requirement_key (name key) ≡ Some key
unfolding requirement_key name
name_back of_requirement.Is = refl
name_back _ = refl

name_lacks : (key : RequirementKey) → lacks 58 (name key) ≡ true
unfolding name
name_lacks of_requirement.Is = refl
name_lacks _ = refl

-- a term whose word is a key and a value that give it
record Spelled (t : RequirementTerm) : Type 0 where
  key : RequirementKey
  text : List ℕ
  is : requirement_word t ≡ word_of (name key) text
  bare : lacks 34 text ≡ true
  gives : requirement_value key text ≡ Good t

abbrev pub with_key : List ℕ × List ℕ → Reading (RequirementKey × List ℕ)
with_key halves = in_term (requirement_key halves.0) >>= (λ key. Good (key, halves.1))

keyed_word : (key : RequirementKey) (text : List ℕ) → lacks 34 text ≡ true → keyed (word_of (name key) text) ≡ Good (key, text)
unfolding keyed
keyed_word key text bare =
    ap (λ o. in_term o >>= with_key) (word_back (name key) text (name_lacks key) bare)
    ∙ ap (λ o. in_term o >>= (λ k. Good (k, text))) (name_back key)

abbrev pub valued : RequirementKey × List ℕ → Reading RequirementTerm
valued halves = requirement_value halves.0 halves.1

read_spelled : (t : RequirementTerm) → Spelled t → requirement_reading (requirement_word t) ≡ Good t
unfolding requirement_reading
read_spelled t s =
    ap (λ w. keyed w >>= valued) s.is ∙ (ap (λ r. r >>= valued) (keyed_word s.key s.text s.bare) ∙ s.gives)

spelled_truth : (b : Bool) → Spelled (requirement.Always b)
unfolding requirement_value name truth_in
spelled_truth true = record { key = of_requirement.Is; text = codes "true"; is = refl; bare = refl; gives = refl }
spelled_truth false = record { key = of_requirement.Is; text = codes "false"; is = refl; bare = refl; gives = refl }

spelled_zero : (met : Bool) (l : LabelTerm) (t : RequirementTerm) → is_met_by_zero l.comparison ≡ met → (is_met_by_zero l.comparison ≡ false → Spelled (requirement.Label l)) → unless_zero met (requirement.Label l) ≡ Good t → Spelled t
spelled_zero true l t is h e = absurd (cc)
spelled_zero false l t is h e = let same : requirement.Label l ≡ t = cc in subst Spelled same (h is)

spelled_label : (x : List ℕ) (l : LabelTerm) → label_in x ≡ Some l → is_met_by_zero l.comparison ≡ false → Spelled (requirement.Label l)
unfolding requirement_value name
spelled_label x l e met =
    let form = label_of_form x l e in
    record {
      key = of_requirement.Label;
      text = label_text l;
      is = refl;
      bare = label_lacks l form;
      gives = rw (label_again l form, met) refl;
    }

label_by : (x : List ℕ) (o : Option LabelTerm) (t : RequirementTerm) → label_in x ≡ o → (in_value o >>= (λ l. unless_zero (is_met_by_zero l.comparison) (requirement.Label l))) ≡ Good t → Spelled t
label_by x None t is e = absurd (cc)
label_by x (Some l) t is e = spelled_zero (is_met_by_zero l.comparison) l t refl (spelled_label x l is) e

has_of : (b : Bool) (t : RequirementTerm) → in_value (cond b (Some requirement.Unresolved) None) ≡ Good t → requirement.Unresolved ≡ t
has_of true t e = cc
has_of false t e = absurd (cc)

spelled_branch : (x : List ℕ) (o : Option (List ℕ)) (t : RequirementTerm) → lacks 34 x ≡ true → requirement_value of_requirement.Branch x ≡ Good t → ((re : List ℕ) → o ≡ Some re → x ≡ codes "^" ++ re)
    → pattern_or o requirement.BranchMatches (option_map requirement.Branch (formed is_slashed_name x)) ≡ Good t → Spelled t
unfolding name
spelled_branch x (Some re) t bare gives front e =
    let same = formed_good is_pattern requirement.BranchMatches (is_pattern re) re t e in
    record { key = of_requirement.Branch; text = x; is = ap requirement_word (sym same) ∙ ap (word_of (codes "branch")) (sym (front re refl)); bare = bare; gives = gives }
spelled_branch x None t bare gives front e =
    let same = formed_good is_slashed_name requirement.Branch (is_slashed_name x) x t e in
    record { key = of_requirement.Branch; text = x; is = ap requirement_word (sym same); bare = bare; gives = gives }

spelled_path : (x : List ℕ) (o : Option (List ℕ)) (t : RequirementTerm) → lacks 34 x ≡ true → requirement_value of_requirement.Path x ≡ Good t → ((re : List ℕ) → o ≡ Some re → x ≡ codes "^" ++ re)
    → pattern_or o requirement.PathMatches (option_map requirement.Path (formed is_path x)) ≡ Good t → Spelled t
unfolding name
spelled_path x (Some re) t bare gives front e =
    let same = formed_good is_pattern requirement.PathMatches (is_pattern re) re t e in
    record { key = of_requirement.Path; text = x; is = ap requirement_word (sym same) ∙ ap (word_of (codes "path")) (sym (front re refl)); bare = bare; gives = gives }
spelled_path x None t bare gives front e =
    let same = formed_good is_path requirement.Path (is_path x) x t e in
    record { key = of_requirement.Path; text = x; is = ap requirement_word (sym same); bare = bare; gives = gives }

-- a pattern of files is one of paths
spelled_file : (x : List ℕ) (o : Option (List ℕ)) (t : RequirementTerm) → lacks 34 x ≡ true → requirement_value of_requirement.File x ≡ Good t → ((re : List ℕ) → o ≡ Some re → x ≡ codes "^" ++ re) → behind (codes "^") x ≡ o
    → pattern_or o requirement.PathMatches (option_map requirement.File (formed is_component x)) ≡ Good t → Spelled t
unfolding name requirement_value
spelled_file x (Some re) t bare gives front is e =
    let same = formed_good is_pattern requirement.PathMatches (is_pattern re) re t e in
    record {
      key = of_requirement.Path;
      text = x;
      is = ap requirement_word (sym same) ∙ ap (word_of (codes "path")) (sym (front re refl));
      bare = bare;
      gives = ap (λ o. pattern_or o requirement.PathMatches (option_map requirement.Path (formed is_path x))) is ∙ e;
    }
spelled_file x None t bare gives front is e =
    let same = formed_good is_component requirement.File (is_component x) x t e in
    record { key = of_requirement.File; text = x; is = ap requirement_word (sym same); bare = bare; gives = gives }

spelled : (key : RequirementKey) (x : List ℕ) (t : RequirementTerm) → lacks 34 x ≡ true → requirement_value key x ≡ Good t → Spelled t
unfolding requirement_value name
spelled of_requirement.Is x t bare e = let b = value_good requirement.Always (truth_in x) t e in subst Spelled b.2 (spelled_truth b.0)
spelled of_requirement.Label x t bare e = label_by x (label_in x) t refl e
spelled of_requirement.UploaderIn x t bare e =
    let same = formed_good is_word requirement.UploaderIn (is_word x) x t e in
    record { key = of_requirement.UploaderIn; text = x; is = ap requirement_word (sym same); bare = bare; gives = e }
spelled of_requirement.OwnerIn x t bare e =
    let same = formed_good is_word requirement.OwnerIn (is_word x) x t e in
    record { key = of_requirement.OwnerIn; text = x; is = ap requirement_word (sym same); bare = bare; gives = e }
spelled of_requirement.Branch x t bare e = spelled_branch x (behind (codes "^") x) t bare e (behind_front (codes "^") x) e
spelled of_requirement.Path x t bare e = spelled_path x (behind (codes "^") x) t bare e (behind_front (codes "^") x) e
spelled of_requirement.File x t bare e = spelled_file x (behind (codes "^") x) t bare e (behind_front (codes "^") x) refl e
spelled of_requirement.Has x t bare e =
    subst Spelled (has_of (bytes_eq x (codes "unresolved")) t e) (record { key = of_requirement.Has; text = codes "unresolved"; is = refl; bare = refl; gives = refl })

by_key : (o : Option RequirementKey) (x : List ℕ) (t : RequirementTerm) → lacks 34 x ≡ true → ((in_term o >>= (λ key. Good (key, x))) >>= valued) ≡ Good t → Spelled t
by_key None x t bare e = absurd (cc)
by_key (Some key) x t bare e = spelled key x t bare e

by_halves : (w : List ℕ) (o : Option (List ℕ × List ℕ)) (t : RequirementTerm) → key_and_value w ≡ o → ((in_term o >>= with_key) >>= valued) ≡ Good t → Spelled t
by_halves w None t is e = absurd (cc)
by_halves w (Some halves) t is e = by_key (requirement_key halves.0) halves.1 t (value_lacks w halves.0 halves.1 is) e

spelled_by : (w : List ℕ) (t : RequirementTerm) → requirement_reading w ≡ Good t → Spelled t
unfolding requirement_reading keyed
spelled_by w t e = by_halves w (key_and_value w) t refl e

pub requirement_again : (w : List ℕ) (t : RequirementTerm) → requirement_reading w ≡ Good t → requirement_reading (requirement_word t) ≡ Good t
requirement_again w t e = read_spelled t (spelled_by w t e)

one_word : (key : RequirementKey) (text : List ℕ) → lacks 34 text ≡ true → IsOneWord (word_of (name key) text)
unfolding name word_of
one_word of_requirement.Is text h = (_, _, refl, refl, quoted_runs text h)
one_word _ text h = (_, _, refl, refl, quoted_runs text h)

pub requirement_stands : (w : List ℕ) (t : RequirementTerm) → requirement_reading w ≡ Good t → IsOneWord (requirement_word t)
requirement_stands w t e = let s = spelled_by w t e in subst IsOneWord (sym s.is) (one_word s.key s.text s.bare)

minus_value : (o : Option (List ℕ)) (k : List ℕ) → in_term (Steps.◌>>=◌ o (keep (45 ∷ k))) >>= with_key ≡ Bad NoTerm
unfolding requirement_key
minus_value None k = refl
minus_value (Some x) k = refl

minus_halves : (o : Option (List ℕ × List ℕ)) → in_term (Steps.◌>>=◌ (option_map (with_first 45) o) keep_both) >>= with_key ≡ Bad NoTerm
minus_halves None = refl
minus_halves (Some halves) = minus_value (unquoted halves.1) halves.0

-- no key begins with a minus
pub requirement_minus : (w : List ℕ) → requirement_reading (45 ∷ w) ≡ Bad NoTerm
unfolding requirement_reading keyed key_and_value cut_at
requirement_minus w = ap (λ r. r >>= valued) (minus_halves (cut_at 58 w))
