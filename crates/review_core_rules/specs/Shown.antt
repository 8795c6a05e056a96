-- What questions about a change are told.
use Rattle.std.specs.Ordering.{nat_cmp}
use Rattle.std.specs.Prelude.{ℕ, ℤ, ◌≡◌, ◌==◌, Bool, true, false, List, Option, Some, None, map, option_map, if◌then◌else◌}
use Rattle.review_words.specs.declared.changes.Role.{Role, TheVariants.Cc}
use Rattle.review_words.specs.declared.{command.ChangeQuery.ChangeQuery, reply.Answer.Answer}
use Rattle.review_words.specs.declared.shown.{ShownAttentionEntry.ShownAttentionEntry, ShownChange.ShownChange}
use Rattle.review_words.specs.declared.shown.{ShownRequirement.ShownRequirement, ShownVote.ShownVote}
use Rattle.review_core_rules.specs.Change.{Change, Setting, current, is_reviewer, of_number, uploader}
use Rattle.review_core_rules.specs.Facts.{AreStanding, vote_on}
use Rattle.review_core_rules.specs.{Listed.AreListed, Listed.AreThose, Seen.vote_cmp, Threads.threads}
use Rattle.review_core_rules.specs.declared.rows.{AttentionEntry.AttentionEntry, VoteKey.VoteKey}
use Rattle.review_words.specs.declared.command.ChangeQuery.TheVariants as asked
use Rattle.review_words.specs.declared.reply.Answer.TheVariants as answer

-- a role is that of a CC
abbrev pub is_cc : Option Role → Bool
is_cc (Some Cc) = true
is_cc _ = false

-- the vote of a key, where it is one on the current patch set
abbrev pub current_vote : Change → VoteKey → Option ℤ
current_vote c k = if k.patch == current c then vote_on c k.label k.account else None

-- a vote as it is shown
abbrev pub shown_vote : VoteKey × ℤ → ShownVote
shown_vote e = record { label = e.0.label; account = e.0.account; value = e.1 }

-- the votes on the current patch set, by label, then by account
abbrev pub AreVotes : Change → List ShownVote → Type 0
AreVotes c shown = (rows : List (VoteKey × ℤ)) × AreListed vote_cmp (current_vote c) rows × (shown ≡ map shown_vote rows)

-- A change of a number as it is shown.
pub record IsShown (n : ℕ) (c : Change) (shown : ShownChange) : Type 0 where
  pub change : shown.change ≡ n
  pub project : shown.project ≡ c.project
  pub branch : shown.branch ≡ c.branch
  pub subject : shown.subject ≡ c.subject
  pub owner : shown.owner ≡ c.owner
  pub state : shown.state ≡ c.state
  pub wip : shown.wip ≡ c.wip
  pub updated : shown.updated ≡ c.updated
  pub patch : shown.patch ≡ current c
  pub commit : option_map (λ p. p.commit) (of_number c.patches (current c)) ≡ Some shown.commit
  pub uploader : shown.uploader ≡ uploader c
  pub reviewers : AreThose (λ u. is_reviewer (c.role u)) shown.reviewers
  pub ccs : AreThose (λ u. is_cc (c.role u)) shown.ccs
  pub votes : AreVotes c shown.votes

-- that an account is in the attention set, as it is shown
abbrev pub shown_attention_entry : ℕ × AttentionEntry → ShownAttentionEntry
shown_attention_entry e = record { account = e.0; reason = e.1.reason; request = e.1.request }

-- who is in the attention set, by account
abbrev pub AreAttentionEntries : Change → List ShownAttentionEntry → Type 0
AreAttentionEntries c shown = (rows : List (ℕ × AttentionEntry)) × AreListed nat_cmp c.attention rows × (shown ≡ map shown_attention_entry rows)

-- What a question about a change of a number is told.
abbrev pub IsToldOf : Setting → ℕ → ChangeQuery → Change → Answer → Type 0
IsToldOf s n asked.Change c told = (shown : ShownChange) × IsShown n c shown × (told ≡ answer.Shown shown)
IsToldOf s n asked.Requirements c told = (shown : List ShownRequirement) × AreStanding s c shown × (told ≡ answer.Requirements shown)
IsToldOf s n asked.Threads c told = told ≡ answer.Threads (threads c.comments)
IsToldOf s n asked.Attention c told = (shown : List ShownAttentionEntry) × AreAttentionEntries c shown × (told ≡ answer.Attention shown)
