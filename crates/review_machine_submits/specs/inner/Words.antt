-- Words that only proofs and private clauses use.
use Rattle.std.specs.Prelude.{ℕ, ◌⊎◌, List, ◌≡◌}
use Rattle.review_words.specs.declared.reply.NotTaken.{NotTaken as Cause, TheVariants.Damaged, TheVariants.Memory}
use Rattle.review_words.specs.declared.reply.Reply.{Reply}
use Rattle.review_chain.specs.Parts.{Want as ChainWant, IsWanted}
use Rattle.review_chain.specs.{Walks.IsBadLink, declared.walks.ChainFault.ChainFault}
use Rattle.review_chain.specs.declared.walks.ChainFault.TheVariants.{Broken, Unknown, Memory as FaultMemory}
use Rattle.review_core_rules.specs.Change.{Change}
use Rattle.review_machine_rows.specs.{Files.File, Links.links_in, Submits.HasBadLink, declared.rows.Delta.Delta}
use Rattle.{review_machine_rows.specs.declared.rows.Rows.Rows, review_machine_accounts.specs.Decisions.IsEmpty}
use Rattle.review_machine_submits.specs.Submits.{IsChecked, HasUnsound}

-- what a submit that no check of its change refuses is told, and what it changes
abbrev pub IsSubmitted : File → Rows → ℕ → Change → Delta → Reply → Type 0
IsSubmitted file rows n c delta reply = (HasBadLink (links_in rows c.project c.branch) n reply × IsEmpty delta) ⊎ IsChecked file rows n c delta reply

-- a chain has a link that no branch has, or something for it isn't known
abbrev pub IsUnlinked : Rows → ℕ → Change → Type 0
IsUnlinked rows n c =
    ((walk : List ℕ) × IsBadLink (links_in rows c.project c.branch) walk n Broken) ⊎ ((walk : List ℕ) × (want : ChainWant) × IsWanted (links_in rows c.project c.branch) walk n want)

-- a fault that is no bad link of a branch: want of memory, something that isn't known, or a link that no branch has
abbrev pub IsNoRefusal : ChainFault → Cause → Type 0
IsNoRefusal FaultMemory cause = cause ≡ Memory
IsNoRefusal Unknown cause = cause ≡ Damaged
IsNoRefusal Broken cause = cause ≡ Damaged
IsNoRefusal fault cause = ⊥

-- Why a chain isn't decided: want of memory, or rows that don't fit together.
abbrev pub IsUnchained : Rows → ℕ → Change → Cause → Type 0
IsUnchained rows n c Memory = Unit {0}
IsUnchained rows n c Damaged = HasUnsound rows ⊎ IsUnlinked rows n c
IsUnchained rows n c _ = ⊥
