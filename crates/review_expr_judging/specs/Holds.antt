-- When an expression holds.
use Rattle.std.specs.{BTreeMap.BTreeMap, BTreeMap.get, Cmp.Lexicographic.slice_cmp, List.list_any}
use Rattle.std.specs.Ordering.{nat_cmp, int_eq}
use Rattle.std.specs.Prelude.{ℕ, ℤ, pos, Bool, true, false, not, ◌&&◌, ◌||◌, ◌==◌, nat_le, nat_lt, int_lt, int_le, List, [], Option, Some, None, count_by}
use Rattle.std.specs.Str.{bytes_eq}
use Rattle.review_names.specs.{Forms.components, Groups.has_account, declared.kinds.ChangeKind.ChangeKind}
use Rattle.review_expr_terms.specs.Grammar.{Tree, Term, Neg, All, Any, Trees, End, With}
use Rattle.review_expr_terms.specs.{Patterns.matches_whole, declared.terms.Comparison.Comparison}
use Rattle.review_expr_terms.specs.declared.terms.{CopyTerm.CopyTerm, Count.Count, LabelTerm.LabelTerm}
use Rattle.review_expr_terms.specs.declared.terms.{RequirementTerm.RequirementTerm, VoteValue.VoteValue, Voters.Voters}
use Rattle.review_expr_judging.specs.declared.facts.{ChangeFacts.ChangeFacts, ValueRange.ValueRange}
use Rattle.review_expr_judging.specs.declared.facts.VoteFacts.{VoteFacts}
use Rattle.review_expr_terms.specs.declared.terms.VoteValue.TheVariants as value
use Rattle.review_expr_terms.specs.declared.terms.Comparison.TheVariants as comparison
use Rattle.review_expr_terms.specs.declared.terms.Voters.TheVariants as voters
use Rattle.review_expr_terms.specs.declared.terms.Count.TheVariants as count
use Rattle.review_names.specs.declared.kinds.ChangeKind.TheVariants as kind
use Rattle.review_expr_terms.specs.declared.terms.RequirementTerm.TheVariants as requirement
use Rattle.review_expr_terms.specs.declared.terms.CopyTerm.TheVariants as copy

-- a tree holds by the terms that hold
abbrev mutual
  pub holds : {A : Type 0} → (A → Bool) → Tree A → Bool
  holds is_held (Term a) = is_held a
  holds is_held (Neg t) = not (holds is_held t)
  holds is_held (All ts) = all_hold is_held ts
  holds is_held (Any ts) = any_holds is_held ts

  pub all_hold : {A : Type 0} → (A → Bool) → Trees A → Bool
  all_hold is_held End = true
  all_hold is_held (With t ts) = holds is_held t && all_hold is_held ts

  pub any_holds : {A : Type 0} → (A → Bool) → Trees A → Bool
  any_holds is_held End = false
  any_holds is_held (With t ts) = holds is_held t || any_holds is_held ts

-- whether a value is the one asked for; a label without a range has no MAX and no MIN
abbrev pub is_value : Option ValueRange → VoteValue → ℤ → Bool
is_value (Some range) value.Max v = int_eq v range.greatest
is_value None value.Max v = false
is_value (Some range) value.Min v = int_eq v range.least
is_value None value.Min v = false
is_value range value.Any v = true
is_value range (value.Exactly n) v = int_eq v n

-- a vote compares as asked, where the range says what MIN and MAX are
abbrev pub compares : Option ValueRange → Comparison → ℤ → Bool
compares range (comparison.Is asked) v = is_value range asked v
compares range (comparison.AtLeast n) v = int_le n v
compares range (comparison.Above n) v = int_lt n v
compares range (comparison.AtMost n) v = int_le v n
compares range (comparison.Below n) v = int_lt v n

-- a value meets a comparison; 0 is no vote and meets none
abbrev pub meets : Option ValueRange → Comparison → ℤ → Bool
meets range asked v = not (int_eq v (pos 0)) && compares range asked v

-- whether an account is among those whose votes count
abbrev pub is_voter : ChangeFacts → Voters → ℕ → Bool
is_voter f voters.Everyone account = true
is_voter f voters.NonUploader account = not (account == f.uploader)
is_voter f voters.Owner account = account == f.owner
is_voter f (voters.Account asked) account = account == asked
is_voter f (voters.Group group) account = has_account f.groups group account

-- as many accounts as asked; at least one where nothing is asked
abbrev pub is_count : Option Count → ℕ → Bool
is_count None n = nat_le 1 n
is_count (Some (count.Exactly k)) n = n == k
is_count (Some (count.AtLeast k)) n = nat_le k n
is_count (Some (count.Above k)) n = nat_lt k n

-- the range of a label
abbrev pub range_of : ChangeFacts → List ℕ → Option ValueRange
range_of f label = get (slice_cmp nat_cmp) f.ranges label

-- the accounts that voted on a label, each once, with their votes
abbrev pub votes_on : Option (BTreeMap ℕ ℤ) → List (ℕ × ℤ)
votes_on None = []
votes_on (Some votes) = votes.entries

-- the votes on a label of a change, each with its account
abbrev pub votes_of : ChangeFacts → List ℕ → List (ℕ × ℤ)
votes_of f label = votes_on (get (slice_cmp nat_cmp) f.votes label)

-- whether an account with its vote counts for a term
abbrev pub is_counted : ChangeFacts → LabelTerm → ℕ × ℤ → Bool
is_counted f t vote = meets (range_of f t.label) t.comparison vote.1 && is_voter f t.voters vote.0

-- a label term holds where as many accounts as it asks for count for it
abbrev pub label_holds : ChangeFacts → LabelTerm → Bool
label_holds f t = is_count t.count (count_by (is_counted f t) (votes_of f t.label))

-- a term of a submit requirement holds for a change
abbrev pub requirement_holds : ChangeFacts → RequirementTerm → Bool
requirement_holds f (requirement.Always b) = b
requirement_holds f (requirement.Label t) = label_holds f t
requirement_holds f (requirement.UploaderIn group) = has_account f.groups group f.uploader
requirement_holds f (requirement.OwnerIn group) = has_account f.groups group f.owner
requirement_holds f (requirement.Branch name) = bytes_eq f.branch name
requirement_holds f (requirement.BranchMatches re) = matches_whole re f.branch
requirement_holds f (requirement.Path path) = list_any (λ p. bytes_eq p path) f.paths
requirement_holds f (requirement.PathMatches re) = list_any (matches_whole re) f.paths
requirement_holds f (requirement.File name) = list_any (λ p. list_any (λ part. bytes_eq part name) (components p)) f.paths
requirement_holds f requirement.Unresolved = f.unresolved

-- a kind that is asked for matches the kind of a patch set; REWORK matches every kind, and MERGE_FIRST_PARENT_UPDATE none, since no patch set has two parents
abbrev pub kind_matches : ChangeKind → ChangeKind → Bool
kind_matches kind.Rework given = true
kind_matches kind.NoChange kind.NoChange = true
kind_matches kind.NoCodeChange kind.NoChange = true
kind_matches kind.NoCodeChange kind.NoCodeChange = true
kind_matches kind.TrivialRebase kind.NoChange = true
kind_matches kind.TrivialRebase kind.TrivialRebase = true
kind_matches kind.TrivialRebaseWithMessageUpdate kind.NoChange = true
kind_matches kind.TrivialRebaseWithMessageUpdate kind.NoCodeChange = true
kind_matches kind.TrivialRebaseWithMessageUpdate kind.TrivialRebase = true
kind_matches kind.TrivialRebaseWithMessageUpdate kind.TrivialRebaseWithMessageUpdate = true
kind_matches asked given = false

-- a term of a copy condition holds for a vote
abbrev pub copy_holds : VoteFacts → CopyTerm → Bool
copy_holds f (copy.Value asked) = meets (Some f.range) (comparison.Is asked) f.value
copy_holds f (copy.Kind asked) = kind_matches asked f.kind
copy_holds f (copy.ApproverIn group) = has_account f.groups group f.voter
copy_holds f (copy.UploaderIn group) = has_account f.groups group f.uploader
copy_holds f copy.UnchangedFiles = f.unchanged_files
