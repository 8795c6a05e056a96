-- What look-ups tell that are made one after the other.
use Rattle.std.specs.Prelude.{◌≡◌, ◌⊎◌, Bool, true, false, Result, Ok, Err}
use Rattle.{std.specs.declared.alloc.AllocError.AllocError, sqlite.specs.Held.Held, sqlite.specs.Held.state}
use Rattle.{sqlite.specs.declared.error.Error.Error, sqlite_trees.specs.Tree.Trees}
use Rattle.{sqlite_trees.specs.declared.store.Store.Ghosts, review_sql_tables.specs.Ran.Looks}
use Rattle.review_machine_rows.specs.Known.{AgreesBeside, Found, Learns, LearnsFound}
use Rattle.review_machine_rows.specs.{Shelf.IsDamaged, declared.rows.Rows.Rows, declared.rows.Want.Want}
use Rattle.review_sql_lookups.specs.{Loads.AreBounded, Tables.tables_at, declared.counts.Counts.Counts}
use Rattle.review_sql.specs.declared.loading.Ended.{Ended}
use Rattle.review_sql.specs.declared.loading.Ended.TheVariants as ended

-- rows learnt what some look-up found
abbrev pub HasLearnt : Want → Rows → Rows → Type 0
HasLearnt w old new = (f : Found) × Learns w f old new

-- how a look-up ended: where rows learnt, what it finds in these tables
abbrev pub LearnsSeen : Want → Rows → Rows → Trees → Ended → Type 0
LearnsSeen w old new db ended.Learnt = LearnsFound (tables_at db) w old new
LearnsSeen w old new db ended.NoMemory = Unit {0}
LearnsSeen w old new db ended.Damaged = IsDamaged (tables_at db)

-- the same where what was known of counts is so, and that what is known then is so too
abbrev pub LearnsBounded : Want → Rows → Rows → Counts → Counts → Trees → Ended → Type 0
LearnsBounded w old new known more db e = AreBounded known (tables_at db) → LearnsSeen w old new db e × AreBounded more (tables_at db)

-- that rows learnt, or that there was no memory for it
abbrev pub learnt_by : Result (Unit {0}) AllocError → Ended
learnt_by (Ok u) = ended.Learnt
learnt_by (Err e) = ended.NoMemory

-- What look-ups tell of tables: where rows learnt all, what they know beside what they knew is so in them; where there was no memory, nothing; and where one met damage, they are those of no history.
abbrev pub AreSeen : Rows → Rows → Trees → Ended → Type 0
AreSeen old new db ended.Learnt = AgreesBeside (tables_at db) old new
AreSeen old new db ended.NoMemory = Unit {0}
AreSeen old new db ended.Damaged = IsDamaged (tables_at db)

-- the same where what was known of counts is so, and what is known then is so too
abbrev pub WereSeen : Rows → Rows → Counts → Counts → Trees → Ended → Type 0
WereSeen old new known more db e = AreBounded known (tables_at db) → AreSeen old new db e × AreBounded more (tables_at db)

-- look-ups that were made by statements, of which the last ended so; or by none, so that the store is as it was and no error came of it
abbrev pub LooksIf : {S X : Type 0} → Ghosts S → Bool → (Trees → X → Type 0) → Held S → Held S → Result X Error → Type 0
LooksIf g true Found old new result = Looks Found (state g old) (state g new) result
LooksIf g false Found old new (Ok x) = (new ≡ old) × ((db : Trees) → Found db x)
LooksIf g false Found old new (Err e) = ⊥

-- one look-up more, before and after which statements were made or not: by one, or by none
abbrev pub LooksOnce : {S X : Type 0} → Ghosts S → Bool → Bool → (Trees → X → Type 0) → Held S → Held S → Result X Error → Type 0
LooksOnce g before after Found old new result = ((after ≡ before) × LooksIf g false Found old new result) ⊎ ((after ≡ true) × LooksIf g true Found old new result)
