-- The tables of one change: which change they show, and why they show none.
use Rattle.std.specs.{Ordering.nat_cmp, Prelude.Option, Prelude.Some, Prelude.option_map, Prelude.◌≡◌}
use Rattle.{review_table.specs.Rows.row_in, review_table.specs.Rows.rows_of, review_core_rules.specs.Change.Change}
use Rattle.review_core_rules.specs.Parts.{Part, TheHeader, PatchOf, VoteOf, RoleOf, CommentOf, AttentionOf, PartRow, AHeader, APatch, ARole, AComment, AnAttentionEntry, part_row}
use Rattle.review_core_rules.specs.Seen.{vote_cmp}
use Rattle.review_machine_rows.specs.{Rows.vote_row, declared.shelf.ShelfFault.ShelfFault}
use Rattle.review_machine_change_rows.specs.declared.loading.ChangeFault.{ChangeFault}
use Rattle.review_machine_change_rows.specs.declared.loading.ChangeFault.TheVariants.{Memory, Gap}
use Rattle.review_machine_change_rows.specs.declared.tables.ChangeTables.{ChangeTables}
use Rattle.review_machine_rows.specs.declared.shelf.ShelfFault.TheVariants as shelf

-- the row of a change, in its tables
abbrev pub part_in : ChangeTables → Part → Option PartRow
part_in t TheHeader = Some (AHeader t.header)
part_in t (PatchOf n) = option_map APatch (row_in nat_cmp (rows_of t.patches) n)
part_in t (VoteOf n l a) = vote_row (row_in vote_cmp (rows_of t.votes) (record { patch = n; label = l; account = a }))
part_in t (RoleOf u) = option_map ARole (row_in nat_cmp (rows_of t.roles) u)
part_in t (CommentOf k) = option_map AComment (row_in nat_cmp (rows_of t.comments) k)
part_in t (AttentionOf u) = option_map AnAttentionEntry (row_in nat_cmp (rows_of t.attention) u)

-- the tables have the rows of the change
abbrev pub Show : ChangeTables → Change → Type 0
Show t c = (part : Part) → part_in t part ≡ part_row c part

-- why tables are not read: where they have a gap, they show no change
abbrev pub HaveFault : ChangeTables → ChangeFault → Type 0
HaveFault t Memory = Unit {0}
HaveFault t Gap = (c : Change) → Show t c → ⊥

-- the fault of a shelf where a change, or the bases of a branch, are not given
abbrev pub fault_of : ChangeFault → ShelfFault
fault_of Memory = shelf.Memory
fault_of Gap = shelf.Damaged
