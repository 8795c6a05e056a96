-- What look-ups in the tables of a desk give, and what a shelf knows of counts.
use Rattle.std.specs.{BTreeMap.is_at, Cmp.Lexicographic.slice_cmp, Ordering.nat_cmp}
use Rattle.std.specs.Prelude.{ℕ, ◌≡◌, List, Option, Some, None, ◌+◌, ◌<◌, ◌≤◌, false, IfSome}
use Rattle.{sqlite_trees.specs.Tree.Trees, review_table.specs.Rows.row_in, review_table.specs.Rows.rows_of}
use Rattle.review_machine_rows.specs.Known.{at_place, IsFound, meaning}
use Rattle.review_machine_rows.specs.{Limits.most_bases, Limits.most_projects, Rows.Tables, Rows.BasesOf, Rows.Projects}
use Rattle.review_machine_rows.specs.{Shelf.IsDamaged, declared.rows.Want.Want}
use Rattle.review_sql_lookups.specs.Tables.{tables_at}
use Rattle.review_sql_lookups.specs.declared.counts.Bound.{Bound, TheVariants.AtMost, TheVariants.Full}
use Rattle.review_sql_lookups.specs.declared.{counts.Counts.Counts, sights.Sight.Sight}
use Rattle.review_sql_lookups.specs.declared.sights.Sight.TheVariants as sight

-- how a look-up ended, of these tables
abbrev pub Tells : Tables → Want → Sight → Type 0
Tells t w (sight.Found found) = IsFound t w (meaning found)
Tells t w sight.NoMemory = Unit {0}
Tells t w sight.Damaged = IsDamaged t

-- how a look-up ended
abbrev pub Sees : Want → Trees → Sight → Type 0
Sees w db s = Tells (tables_at db) w s

-- it is so of what is told, and where nothing is told the tables are those of no history
abbrev pub IfTold : {X : Type 0} → Trees → (X → Type 0) → Option X → Type 0
IfTold db IsSo None = IsDamaged (tables_at db)
IfTold db IsSo (Some x) = IsSo x

-- the greatest number, or 0 where there is none
abbrev pub last_of : Option (Option ℕ) → Option ℕ
last_of None = Some 0
last_of (Some number) = number

-- the commits of places in their order, or that none are
abbrev pub IsOrdered : List (ℕ × List ℕ) → Option (List (List ℕ)) → Type 0
IsOrdered places (Some commits) = (n : ℕ) → row_in nat_cmp places n ≡ at_place commits n
IsOrdered places None = (commits : List (List ℕ)) → ((n : ℕ) → row_in nat_cmp places n ≡ at_place commits n) → ⊥

-- ---- what a shelf knows of how many requests, projects and bases there are

-- what is known of a count that has this limit is so: of a number from the limit on it says nothing
abbrev pub Bounds : ℕ → Bound → ℕ → Type 0
Bounds most (AtMost n) count = n < most → count ≤ n
Bounds most Full count = most ≤ count

-- what is known of the bases of projects is so
abbrev pub AreBasesBounded : List (List ℕ × Bound) → Tables → Type 0
AreBasesBounded rows t = (project : List ℕ) (bound : Bound) → row_in (slice_cmp nat_cmp) rows project ≡ Some bound → Bounds most_bases bound (t.count (BasesOf project))

-- what is known is so in the tables
pub record AreBounded (counts : Counts) (t : Tables) : Type 0 where
  pub requests_are : IfSome counts.requests (λ n. n ≡ t.requests)
  pub projects_are : IfSome counts.projects (λ bound. Bounds most_projects bound (t.count Projects))
  pub bases_are : AreBasesBounded (rows_of counts.bases) t

-- one project has one base more at most, and all others have as many
pub record Grows (project : List ℕ) (old new : Tables) : Type 0 where
  pub more : (p : List ℕ) → (old.count (BasesOf p) ≤ new.count (BasesOf p)) × (new.count (BasesOf p) ≤ old.count (BasesOf p) + 1)
  pub others : (p : List ℕ) → is_at (slice_cmp nat_cmp project) p ≡ false → new.count (BasesOf p) ≡ old.count (BasesOf p)

-- how a look-up ended, where what was known is so, and that what is known then is so too
abbrev pub SeesBounded : Want → Counts → Counts → Trees → Sight → Type 0
SeesBounded w known more db s = AreBounded known (tables_at db) → Sees w db s × AreBounded more (tables_at db)
