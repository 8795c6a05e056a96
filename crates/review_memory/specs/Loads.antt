-- Why tables in memory are not read.
use Rattle.review_machine_rows.specs.{Rows.Tables, Shelf.IsDamaged, declared.shelf.ShelfFault.ShelfFault}
use Rattle.review_machine_rows.specs.declared.shelf.ShelfFault.TheVariants.{Memory, Store, Damaged}

-- why tables in memory are not read: want of memory, or that they are those of no history
abbrev pub IsUnread : Tables → ShelfFault → Type 0
IsUnread t Memory = Unit {0}
IsUnread t Damaged = IsDamaged t
IsUnread t Store = ⊥
