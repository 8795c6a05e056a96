-- What a word is read as: readings one after the other.
use Rattle.std.specs.Prelude.{◌≡◌, Option, Some, None, Bool, if◌then◌else◌, ℕ, List, ◌&&◌, true, false, codes, option_map, IsSomeAnd}
use Rattle.std.specs.Str.{bytes_eq}
use Rattle.review_names.specs.{Forms.is_slashed_name, Forms.is_path, Kinds.kind_named, Names.is_word}
use Rattle.review_expr_terms.specs.Patterns.{is_pattern, IsDeepPattern, IsEnginePattern}
use Rattle.review_expr_terms.specs.Words.{NoTerm, NoValue, Zero, Reading, Good, Bad}
use Rattle.review_expr_terms.specs.declared.terms.{CopyTerm.CopyTerm, RequirementTerm.RequirementTerm}
use Rattle.{review_expr_terms.specs.declared.word.WordFault.WordFault, review_expr_spelling.specs.Labels.label_in}
use Rattle.review_expr_spelling.specs.Values.{behind, cut_at, key_and_value, vote_in, is_met_by_zero}
use Rattle.review_expr_spelling.specs.declared.keys.{CopyKey.CopyKey, RequirementKey.RequirementKey}
use Rattle.review_expr_terms.specs.declared.word.WordFault.TheVariants as fault
use Rattle.review_expr_terms.specs.declared.terms.Comparison.TheVariants as comparison
use Rattle.review_expr_terms.specs.declared.terms.RequirementTerm.TheVariants as requirement
use Rattle.review_expr_terms.specs.declared.terms.CopyTerm.TheVariants as copy
use Rattle.review_expr_spelling.specs.declared.keys.RequirementKey.TheVariants as of_requirement
use Rattle.review_expr_spelling.specs.declared.keys.CopyKey.TheVariants as of_copy

-- a reading, and a second one of what the first gave; a flaw of the first is that of the whole
infixl 10 ◌>>=◌
-- a reading, and what is read further where it is good
abbrev pub ◌>>=◌ : {A B : Type 0} → Reading A → (A → Reading B) → Reading B
(Good x) >>= f = f x
(Bad flaw) >>= f = Bad flaw

-- a part without which there is no term
abbrev pub in_term : {A : Type 0} → Option A → Reading A
in_term (Some x) = Good x
in_term None = Bad NoTerm

-- a part without which there is no value
abbrev pub in_value : {A : Type 0} → Option A → Reading A
in_value (Some x) = Good x
in_value None = Bad NoValue

-- a term that is wanted only where a comparison is not met by 0
abbrev pub unless_zero : {A : Type 0} → Bool → A → Reading A
unless_zero met term = if met then Bad Zero else Good term

-- The fault may be given for a value that is read so: it is none, or memory ran out.
abbrev pub IsUnread : {A : Type 0} → Option A → WordFault → Type 0
IsUnread read fault.BadValue = read ≡ None
IsUnread read fault.Memory = Unit {0}
IsUnread read _ = ⊥

-- a text that is of a form
abbrev pub formed : (List ℕ → Bool) → List ℕ → Option (List ℕ)
formed is_form text = if is_form text then Some text else None

-- the key of a submit requirement's term that has a name
unfoldable pub requirement_key : List ℕ → Option RequirementKey
requirement_key name =
    if bytes_eq name (codes "is") then Some of_requirement.Is
    else if bytes_eq name (codes "label") then Some of_requirement.Label
    else if bytes_eq name (codes "uploaderin") then Some of_requirement.UploaderIn
    else if bytes_eq name (codes "ownerin") then Some of_requirement.OwnerIn
    else if bytes_eq name (codes "branch") then Some of_requirement.Branch
    else if bytes_eq name (codes "path") then Some of_requirement.Path
    else if bytes_eq name (codes "file") then Some of_requirement.File
    else if bytes_eq name (codes "has") then Some of_requirement.Has
    else None

-- the key of a copy condition's term that has a name
unfoldable pub copy_key : List ℕ → Option CopyKey
copy_key name =
    if bytes_eq name (codes "is") then Some of_copy.Is
    else if bytes_eq name (codes "changekind") then Some of_copy.ChangeKind
    else if bytes_eq name (codes "approverin") then Some of_copy.ApproverIn
    else if bytes_eq name (codes "uploaderin") then Some of_copy.UploaderIn
    else if bytes_eq name (codes "has") then Some of_copy.Has
    else None

-- `true` or `false`
unfoldable pub truth_in : List ℕ → Option Bool
truth_in text =
    if bytes_eq text (codes "true") then Some true
    else if bytes_eq text (codes "false") then Some false
    else None

-- what was cut at a slash had none
abbrev pub no_slash : Option (List ℕ × List ℕ) → Bool
no_slash None = true
no_slash (Some halves) = false

-- a component of a path: a path without a slash
abbrev pub is_component : List ℕ → Bool
is_component text = no_slash (cut_at 47 text) && is_path text

-- A value that begins with `^` is a pattern, and any other a text.
abbrev pub pattern_or : Option (List ℕ) → (List ℕ → RequirementTerm) → Option RequirementTerm → Reading RequirementTerm
pattern_or (Some re) term other = in_value (option_map term (formed is_pattern re))
pattern_or None term other = in_value other

-- the term that a key and a value are
unfoldable pub requirement_value : RequirementKey → List ℕ → Reading RequirementTerm
requirement_value of_requirement.Is value = in_value (option_map requirement.Always (truth_in value))
requirement_value of_requirement.Label value = do
  term ← in_value (label_in value)
  unless_zero (is_met_by_zero term.comparison) (requirement.Label term)
requirement_value of_requirement.UploaderIn value = in_value (option_map requirement.UploaderIn (formed is_word value))
requirement_value of_requirement.OwnerIn value = in_value (option_map requirement.OwnerIn (formed is_word value))
requirement_value of_requirement.Branch value = pattern_or (behind (codes "^") value) requirement.BranchMatches (option_map requirement.Branch (formed is_slashed_name value))
requirement_value of_requirement.Path value = pattern_or (behind (codes "^") value) requirement.PathMatches (option_map requirement.Path (formed is_path value))
requirement_value of_requirement.File value = pattern_or (behind (codes "^") value) requirement.PathMatches (option_map requirement.File (formed is_component value))
requirement_value of_requirement.Has value = in_value (if bytes_eq value (codes "unresolved") then Some requirement.Unresolved else None)

-- the term of a copy condition that a key and a value are
unfoldable pub copy_value : CopyKey → List ℕ → Reading CopyTerm
copy_value of_copy.Is value = do
  asked ← in_value (vote_in value)
  unless_zero (is_met_by_zero (comparison.Is asked)) (copy.Value asked)
copy_value of_copy.ChangeKind value = in_value (option_map copy.Kind (kind_named value))
copy_value of_copy.ApproverIn value = in_value (option_map copy.ApproverIn (formed is_word value))
copy_value of_copy.UploaderIn value = in_value (option_map copy.UploaderIn (formed is_word value))
copy_value of_copy.Has value = in_value (if bytes_eq value (codes "unchanged-files") then Some copy.UnchangedFiles else None)

-- the known key of a word, and its value
unfoldable pub keyed : List ℕ → Reading (RequirementKey × List ℕ)
keyed word = do
  halves ← in_term (key_and_value word)
  key ← in_term (requirement_key halves.0)
  Good (key, halves.1)

-- A word of a submit requirement: a key that is known, and a value of that key's. No key begins with a minus, and so no word that does is a term.
unfoldable pub requirement_reading : List ℕ → Reading RequirementTerm
requirement_reading word = do
  halves ← keyed word
  requirement_value halves.0 halves.1

-- a word of a copy condition
unfoldable pub copy_reading : List ℕ → Reading CopyTerm
copy_reading word = do
  halves ← in_term (key_and_value word)
  key ← in_term (copy_key halves.0)
  copy_value key halves.1

-- whether values of a key may be patterns
abbrev pub takes_patterns : RequirementKey → Bool
takes_patterns of_requirement.Branch = true
takes_patterns of_requirement.Path = true
takes_patterns of_requirement.File = true
takes_patterns _ = false

-- the pattern's text in a value of a key
abbrev pub pattern_of : RequirementKey → List ℕ → Option (List ℕ)
pattern_of key value = if takes_patterns key then behind (codes "^") value else None

-- the pattern's text in a word
abbrev pub pattern_in : Reading (RequirementKey × List ℕ) → Option (List ℕ)
pattern_in (Good halves) = pattern_of halves.0 halves.1
pattern_in (Bad flaw) = None

-- the word has a pattern that nests deeper than the engine reads
abbrev pub IsDeep : List ℕ → Type 0
IsDeep word = IsSomeAnd (pattern_in (keyed word)) IsDeepPattern

-- the word has a pattern, which the engine may refuse all the same
abbrev pub IsPattern : List ℕ → Type 0
IsPattern word = IsSomeAnd (pattern_in (keyed word)) IsEnginePattern
