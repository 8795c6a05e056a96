-- What is found of a change in its tables.
use Rattle.std.specs.Ordering.{nat_cmp}
use Rattle.std.specs.Prelude.{ℕ, ◌+◌, ℤ, ◌≡◌, ◌⊎◌, List, Option, Some, None, IsSome, IfSome, if◌then◌else◌, option_map}
use Rattle.{std.specs.declared.cmp.Ordering.Ordering, sqlite_trees.specs.Tree.Trees}
use Rattle.review_names.specs.Forms.{is_within, most_changes}
use Rattle.review_table.specs.Rows.{row_in, rows_of}
use Rattle.review_words.specs.declared.changes.Role.{Role}
use Rattle.review_sql_tables.specs.Search.{AreParts, HasGreatest, row_at}
use Rattle.review_core_rules.specs.{Change.Change, Parts.Part, Seen.vote_cmp}
use Rattle.review_core_rules.specs.declared.rows.{AttentionEntry.AttentionEntry, CommentRow.CommentRow}
use Rattle.review_core_rules.specs.declared.rows.{PatchRow.PatchRow, VoteKey.VoteKey}
use Rattle.review_machine_rows.specs.{Known.HasChange, Rows.APart, Shelf.IsDamaged}
use Rattle.review_machine_change_rows.specs.declared.tables.ChangeTables.{ChangeTables}
use Rattle.review_sql_records.specs.Forms.{is_small, where_is}
use Rattle.review_sql_change_records.specs.Forms.{change_numbers, headers, patches, votes, roles, comments, attention_entries, change_patches, change_votes, change_roles, change_comments, change_attention}
use Rattle.review_sql_lookups.specs.{Loads.last_of, Tables.part_in, Tables.tables_at, declared.sights.Sight.Sight}
use Rattle.review_sql_lookups.specs.declared.sights.Sight.TheVariants.{NoMemory, Damaged, Found}
use Rattle.review_sql_change_lookups.specs.declared.reviews.{FoundRows.FoundRows, FoundSets.FoundSets}
use Rattle.review_sql_change_lookups.specs.declared.reviews.FoundTalk.{FoundTalk}
use Rattle.review_machine_change_rows.specs.Tables as tables

-- what was sent of a change, and the votes on it, as its tables have them
pub record AreFoundSets (n : ℕ) (db : Trees) (f : FoundSets) : Type 0 where
  pub header : f.header ≡ row_at headers db n
  pub patches : AreParts nat_cmp change_patches patches n db (option_map rows_of f.patches)
  pub votes : AreParts vote_cmp change_votes votes n db (option_map rows_of f.votes)

-- the roles, the comments and the attention set of a change, as its tables have them
pub record AreFoundTalk (n : ℕ) (db : Trees) (f : FoundTalk) : Type 0 where
  pub roles : AreParts nat_cmp change_roles roles n db (option_map rows_of f.roles)
  pub comments : AreParts nat_cmp change_comments comments n db (option_map rows_of f.comments)
  pub attention : AreParts nat_cmp change_attention attention_entries n db (option_map rows_of f.attention)

-- the rows are those of a change, table by table
pub record AreFoundRows (n : ℕ) (db : Trees) (f : FoundRows) : Type 0 where
  pub sets : AreFoundSets n db f.sets
  pub talk : AreFoundTalk n db f.talk

-- the rows of a change are those of its tables, where it has some
abbrev pub HaveTables : ℕ → Trees → Option ChangeTables → Type 0
HaveTables n db None = (part : Part) → part_in db n part ≡ None
HaveTables n db (Some t) = (part : Part) → part_in db n part ≡ option_map APart (tables.part_in t part)

-- why the tables of a change are not told
abbrev pub IsWhyNone : ℕ → Trees → Sight → Type 0
IsWhyNone n db (Found found) = ⊥
IsWhyNone n db NoMemory = Unit {0}
IsWhyNone n db Damaged = IsDamaged (tables_at db)

-- some key has a row
abbrev pub HasRow : {K X : Type 0} → (K → K → Ordering) → List (K × X) → Type 0
HasRow {K = K} cmp entries = (k : K) × IsSome (row_in cmp entries k)

-- a change has a patch set, a vote, a role, a comment, or an account in its attention set
abbrev pub HaveSome : List (ℕ × PatchRow) → List (VoteKey × ℤ) → List (ℕ × Role) → List (ℕ × CommentRow) → List (ℕ × AttentionEntry) → Type 0
HaveSome patches votes roles comments attention = HasRow nat_cmp patches ⊎ (HasRow vote_cmp votes ⊎ (HasRow nat_cmp roles ⊎ (HasRow nat_cmp comments ⊎ HasRow nat_cmp attention)))

-- the number of the change after this last one, where one may come
abbrev pub number_after : Option ℕ → Option ℕ
number_after None = None
number_after (Some n) = if is_within most_changes (n + 1) then Some (n + 1) else None

-- what stands of the change after the last one, where one may come, is a whole change or nothing
abbrev pub NothingStays : Trees → Type 0
NothingStays db = (found : Option (Option ℕ)) × HasGreatest change_numbers 0 tt db found × IfSome (number_after (where_is is_small (last_of found))) (λ n. (c : Option Change) × HasChange (tables_at db).row n c)

-- where the greatest number of a change was found, no more stands of the change after it
abbrev pub IsFresh : Trees → Sight → Type 0
IsFresh db (Found found) = NothingStays db
IsFresh db s = Unit {0}
