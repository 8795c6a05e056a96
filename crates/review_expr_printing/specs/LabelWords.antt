-- A `label:` word and its value, in other words than those by which they are read.
use Rattle.std.specs.Prelude.{ℕ, ◌≡◌, ◌⊎◌, ◌↔◌, ◌++◌, List, [], ◌∷◌, Option, Some, None, true, false, ◌≢◌, codes}
use Rattle.review_names.specs.Forms.{is_label}
use Rattle.review_expr_terms.specs.{Words.Good, declared.terms.Count.Count}
use Rattle.review_expr_terms.specs.declared.terms.{LabelTerm.LabelTerm, Voters.Voters, Voters.TheVariants.Everyone}
use Rattle.review_expr_spelling.specs.Labels.{voters_in, count_in, label_in}
use Rattle.review_expr_spelling.specs.{Values.comparison_in, Values.is_met_by_zero, Words.requirement_reading}
use Rattle.review_expr_terms.specs.declared.terms.RequirementTerm.TheVariants as requirement

-- a label's name in front of the rest of a text, where no longer front is one
pub record IsLongestName (name rest : List ℕ) : Type 0 where
  pub is_name : is_label name ≡ true
  pub longest : (c : ℕ) (more after : List ℕ) → (c ∷ more) ++ after ≡ rest → is_label (name ++ c ∷ more) ≡ false

-- a part that is this count
abbrev pub IsCount : List ℕ → Option Count → Type 0
IsCount part asked = (n : Count) × (count_in part ≡ Some n) × (asked ≡ Some n)

-- nothing, one part behind a comma, or two: at most one says whose votes count, and at most one how many accounts are asked for, in either order
abbrev pub AreParts : List ℕ → Voters → Option Count → Type 0
AreParts text who asked =
    ((text ≡ []) × (who ≡ Everyone) × (asked ≡ None))
    ⊎ (((part : List ℕ) × (text ≡ 44 ∷ part) × (voters_in part ≡ Some who) × (asked ≡ None))
    ⊎ (((part : List ℕ) × (text ≡ 44 ∷ part) × (who ≡ Everyone) × IsCount part asked)
    ⊎ (((a b : List ℕ) × (text ≡ 44 ∷ (a ++ 44 ∷ b)) × (voters_in a ≡ Some who) × IsCount b asked)
    ⊎ ((a b : List ℕ) × (text ≡ 44 ∷ (a ++ 44 ∷ b)) × IsCount a asked × (voters_in b ≡ Some who)))))

-- a label's name, a comparison, and parts, one behind the other
pub record IsLabelValue (text : List ℕ) (t : LabelTerm) : Type 0 where
  pub asked : List ℕ
  pub parts : List ℕ
  pub text_is : t.label ++ (asked ++ parts) ≡ text
  pub name : IsLongestName t.label (asked ++ parts)
  pub comparison : comparison_in asked ≡ Some t.comparison
  pub rest : AreParts parts t.voters t.count

-- The value of a `label:` word is a label term exactly where it is the label's name, the comparison and the parts of that term.
abbrev pub LabelValuesAreSo : Type 0
LabelValuesAreSo = (text : List ℕ) (t : LabelTerm) → (label_in text ≡ Some t) ↔ IsLabelValue text t

-- a text stands for a value: it is that value, or the value between two quotes
abbrev pub StandsFor : List ℕ → List ℕ → Type 0
StandsFor text value = (text ≡ value) ⊎ (text ≡ codes "\"" ++ (value ++ codes "\""))

-- `label:`, and a text that stands for the value of the term; the value has no quote in it, and 0 doesn't meet its comparison
pub record IsLabelWord (word : List ℕ) (t : LabelTerm) : Type 0 where
  pub text : List ℕ
  pub value : List ℕ
  pub word_is : codes "label:" ++ text ≡ word
  pub stands : StandsFor text value
  pub has_no_quote : (before after : List ℕ) → before ++ (codes "\"" ++ after) ≢ value
  pub value_is : IsLabelValue value t
  pub zero_fails : is_met_by_zero t.comparison ≡ false

-- A word of a submit requirement is a label term exactly where it is the `label:` word of that term.
abbrev pub LabelWordsAreSo : Type 0
LabelWordsAreSo = (word : List ℕ) (t : LabelTerm) → (requirement_reading word ≡ Good (requirement.Label t)) ↔ IsLabelWord word t
