-- Which accounts a `label:` term counts.
use Rattle.std.specs.Prelude.{ℕ, ◌≡◌, Bool, true, not, ◌==◌, ◌&&◌, option_map, List, length}
use Rattle.review_names.specs.Groups.{has_account}
use Rattle.review_expr_terms.specs.declared.terms.{LabelTerm.LabelTerm, Voters.Voters}
use Rattle.review_expr_judging.specs.Holds.{is_count, label_holds, meets}
use Rattle.review_expr_judging.specs.declared.facts.ChangeFacts.{ChangeFacts}
use Rattle.review_core_rules.specs.Change.{Change, Setting, current, label_in, range_of, uploader}
use Rattle.review_core_rules.specs.{Facts.AreFacts, Listed.AreThose}
use Rattle.review_expr_terms.specs.declared.terms.Voters.TheVariants as voters

-- whether an account is among the voters that a term asks for
abbrev pub is_asked_for : Setting → Change → Voters → ℕ → Bool
is_asked_for s c voters.Everyone account = true
is_asked_for s c voters.NonUploader account = not (account == uploader c)
is_asked_for s c voters.Owner account = account == c.owner
is_asked_for s c (voters.Account asked) account = account == asked
is_asked_for s c (voters.Group group) account = has_account s.groups group account

-- an account counts for a term where its vote on the label on the current patch set meets the comparison, and it is asked for
abbrev pub counts : Setting → Change → LabelTerm → ℕ → Bool
counts s c t account = meets (option_map range_of (label_in s.file t.label)) t.comparison (c.vote (current c) t.label account) && is_asked_for s c t.voters account

-- by the facts of a change each `label:` term counts accounts, each at most once: those that count for it
abbrev pub CountsEachOnce : Setting → Change → Type 0
CountsEachOnce s c = (f : ChangeFacts) (t : LabelTerm) → AreFacts s c f → (accounts : List ℕ) × AreThose (counts s c t) accounts × (label_holds f t ≡ is_count t.count (length accounts))
