-- What is asked next.
use Rattle.std.specs.Prelude.{ℕ, ◌≡◌, List, Option}
use Rattle.review_machine_rows.specs.{Files.File, Steps.Topic, Steps.ComesTo, Steps.next}
use Rattle.review_machine_rows.specs.declared.{rows.Rows.Rows, rows.Want.Want, step.Step.Step}

-- these look-ups are what is asked next, and once they are made asking has come to this step
abbrev pub IsAsked : Option File → Rows → ℕ → Topic → List Want → Step → Type 0
IsAsked file rows caller topic wants step = (wants ≡ next file rows caller topic) × ComesTo file rows caller topic wants step
