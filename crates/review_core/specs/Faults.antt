-- Rows that are refused.
use Rattle.review_core_rules.specs.{Seen.seen, Sound.IsSound, declared.rows.ChangeRows.ChangeRows}
use Rattle.review_core.specs.declared.file.RowsFault.{RowsFault, TheVariants.Broken, TheVariants.Memory}

-- Broken is answered only where the rows don't fit together
abbrev pub IsRefused : ChangeRows → RowsFault → Type 0
IsRefused rows Broken = IsSound (seen rows) → ⊥
IsRefused rows Memory = Unit {0}
