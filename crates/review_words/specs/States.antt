-- The names of where a change stands, and of how a submit requirement stands for it.
use Rattle.std.specs.Prelude.{ℕ, List, codes, if◌then◌else◌, Option, Some, None}
use Rattle.std.specs.Str.{bytes_eq}
use Rattle.review_words.specs.declared.shown.State.{State, TheVariants.New, TheVariants.Merged, TheVariants.Abandoned}
use Rattle.review_words.specs.declared.shown.Status.{Status}
use Rattle.review_words.specs.declared.shown.Status.TheVariants.{NotApplicable, Overridden, Satisfied, Unsatisfied}

-- the name of where a change stands
abbrev pub state_name : State → List ℕ
state_name New = codes "NEW"
state_name Merged = codes "MERGED"
state_name Abandoned = codes "ABANDONED"

-- where a change stands, by its name
unfoldable pub state_named : List ℕ → Option State
state_named name =
    if bytes_eq name (codes "NEW") then Some New else if bytes_eq name (codes "MERGED") then Some Merged else if bytes_eq name (codes "ABANDONED") then Some Abandoned else None

-- the name of how a submit requirement stands
abbrev pub status_name : Status → List ℕ
status_name NotApplicable = codes "NOT_APPLICABLE"
status_name Overridden = codes "OVERRIDDEN"
status_name Satisfied = codes "SATISFIED"
status_name Unsatisfied = codes "UNSATISFIED"
