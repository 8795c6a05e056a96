-- How terms are written.
use Rattle.std.specs.{Char.is_ascii_lowercase, List.list_any}
use Rattle.std.specs.Prelude.{◌≡◌, IsTrue, ℕ, suc, ℤ, pos, negsuc, List, [], ◌∷◌, ◌++◌, Bool, true, false, if◌then◌else◌, codes, Option, Some, None}
use Rattle.review_names.specs.{Kinds.kind_name, Numerals.numeral}
use Rattle.review_expr_terms.specs.Lexemes.{is_end, runs}
use Rattle.review_expr_terms.specs.{Words.Good, Words.Reading, declared.terms.Comparison.Comparison}
use Rattle.review_expr_terms.specs.declared.terms.{CopyTerm.CopyTerm, Count.Count, LabelTerm.LabelTerm}
use Rattle.review_expr_terms.specs.declared.terms.{RequirementTerm.RequirementTerm, VoteValue.VoteValue, Voters.Voters}
use Rattle.review_expr_terms.specs.declared.terms.VoteValue.TheVariants as value
use Rattle.review_expr_terms.specs.declared.terms.Comparison.TheVariants as comparison
use Rattle.review_expr_terms.specs.declared.terms.Voters.TheVariants as voters
use Rattle.review_expr_terms.specs.declared.terms.Count.TheVariants as count
use Rattle.review_expr_terms.specs.declared.terms.RequirementTerm.TheVariants as requirement
use Rattle.review_expr_terms.specs.declared.terms.CopyTerm.TheVariants as copy

-- a number without a plus
unfoldable pub number_text : ℤ → List ℕ
number_text (pos n) = numeral n
number_text (negsuc n) = codes "-" ++ numeral (suc n)

-- the text of a value of a vote
abbrev pub vote_text : VoteValue → List ℕ
vote_text value.Max = codes "MAX"
vote_text value.Min = codes "MIN"
vote_text value.Any = codes "ANY"
vote_text (value.Exactly n) = number_text n

-- the text of a comparison with its value
abbrev pub comparison_text : Comparison → List ℕ
comparison_text (comparison.Is asked) = codes "=" ++ vote_text asked
comparison_text (comparison.AtLeast n) = codes ">=" ++ number_text n
comparison_text (comparison.Above n) = codes ">" ++ number_text n
comparison_text (comparison.AtMost n) = codes "<=" ++ number_text n
comparison_text (comparison.Below n) = codes "<" ++ number_text n

-- the part that says whose votes count, with the comma in front of it
abbrev pub voters_text : Voters → List ℕ
voters_text voters.Everyone = []
voters_text voters.NonUploader = codes ",user=non_uploader"
voters_text voters.Owner = codes ",user=owner"
voters_text (voters.Account account) = codes ",user=" ++ numeral account
voters_text (voters.Group group) = codes ",group=" ++ group

-- the part that says how many accounts are asked for, with the comma in front of it
abbrev pub count_text : Option Count → List ℕ
count_text None = []
count_text (Some (count.Exactly k)) = codes ",count=" ++ numeral k
count_text (Some (count.AtLeast k)) = codes ",count>=" ++ numeral k
count_text (Some (count.Above k)) = codes ",count>" ++ numeral k

-- the value of a `label:` word
unfoldable pub label_text : LabelTerm → List ℕ
label_text t = t.label ++ (comparison_text t.comparison ++ (voters_text t.voters ++ count_text t.count))

-- a value stands in quotes exactly where it has white space or a parenthesis
unfoldable pub quoted : List ℕ → List ℕ
quoted value = if list_any is_end value then codes "\"" ++ (value ++ codes "\"") else value

-- a word of a key and a value
unfoldable pub word_of : List ℕ → List ℕ → List ℕ
word_of key value = key ++ (codes ":" ++ quoted value)

-- the text of true and false
abbrev pub truth_text : Bool → List ℕ
truth_text true = codes "true"
truth_text false = codes "false"

-- the word of a submit requirement's term
abbrev pub requirement_word : RequirementTerm → List ℕ
requirement_word (requirement.Always holds) = word_of (codes "is") (truth_text holds)
requirement_word (requirement.Label t) = word_of (codes "label") (label_text t)
requirement_word (requirement.UploaderIn group) = word_of (codes "uploaderin") group
requirement_word (requirement.OwnerIn group) = word_of (codes "ownerin") group
requirement_word (requirement.Branch name) = word_of (codes "branch") name
requirement_word (requirement.BranchMatches re) = word_of (codes "branch") (codes "^" ++ re)
requirement_word (requirement.Path path) = word_of (codes "path") path
requirement_word (requirement.PathMatches re) = word_of (codes "path") (codes "^" ++ re)
requirement_word (requirement.File name) = word_of (codes "file") name
requirement_word requirement.Unresolved = word_of (codes "has") (codes "unresolved")

-- the word of a copy condition's term
abbrev pub copy_word : CopyTerm → List ℕ
copy_word (copy.Value asked) = word_of (codes "is") (vote_text asked)
copy_word (copy.Kind asked) = word_of (codes "changekind") (kind_name asked)
copy_word (copy.ApproverIn group) = word_of (codes "approverin") group
copy_word (copy.UploaderIn group) = word_of (codes "uploaderin") group
copy_word copy.UnchangedFiles = word_of (codes "has") (codes "unchanged-files")

-- One word of an expression, with a small letter in front: so it is no AND, OR or NOT, and begins with no minus.
abbrev pub IsOneWord : List ℕ → Type 0
IsOneWord word = (c : ℕ) × (cs : List ℕ) × (word ≡ c ∷ cs) × IsTrue (is_ascii_lowercase c) × IsTrue (runs false word)

-- the word of each term that is read from a word is read as that term
abbrev pub ReadAgain : {A : Type 0} → (List ℕ → Reading A) → (A → List ℕ) → Type 0
ReadAgain {A = A} reading spelling = (word : List ℕ) (t : A) → reading word ≡ Good t → reading (spelling t) ≡ Good t

-- the word of each term that is read from a word is one word
abbrev pub AreOneWord : {A : Type 0} → (List ℕ → Reading A) → (A → List ℕ) → Type 0
AreOneWord {A = A} reading spelling = (word : List ℕ) (t : A) → reading word ≡ Good t → IsOneWord (spelling t)
