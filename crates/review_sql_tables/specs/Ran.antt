-- What statements do inside a transaction, and what a whole transaction does.
use Rattle.std.specs.Prelude.{ℕ, ◌≡◌, Bool, true, false, Result, Ok, Err, IsTrue, IfErr, IfOk, OnOk, OnErr}
use Rattle.sqlite.specs.Effect.{Database, IsDatabase}
use Rattle.sqlite.specs.State.{State, HasCleanDisk, Survives, KeepsCommit}
use Rattle.sqlite.specs.declared.error.{Error.Error, Error.TheVariants.SqliteFailure, ErrorCode.ErrorCode}
use Rattle.{sqlite.specs.declared.error.ErrorCode.TheVariants.ConstraintViolation, sqlite_trees.specs.Tree.Trees}
use Rattle.review_sql_tables.specs.{Content.AreApart, Desk.desk_schema, Desk.is_tree}

-- the tables are those that `create` makes, they list and obey that schema, and the rows of each have rowids of their own
pub record IsReady (db : Database) : Type 0 where
  pub schema : db.schema ≡ desk_schema
  pub sound : IsDatabase db
  pub apart : (t : ℕ) → is_tree t ≡ true → AreApart (db.trees t)

-- the tables have the form of those that `create` makes, where the connection is open
abbrev pub IsDeskIfOpen : State → Type 0
IsDeskIfOpen s = IsTrue s.is_open → s.now.schema ≡ desk_schema

-- statements inside a transaction, which lead so from one database to the next where all of them succeed
pub record Within {X : Type 0} (Leads : Database → Database → Type 0) (old new : State) (result : Result X Error) : Type 0 where
  pub ran : HasCleanDisk new → IsTrue old.in_transaction → OnOk result (Leads old.now new.now)
  pub kept : HasCleanDisk new → IsTrue old.in_transaction → KeepsCommit old new × OnOk result (IsTrue new.in_transaction)
  pub survives : Survives old new (λ _. ⊥)

-- the tables of a desk are changed so, and stay those of a desk
pub record OnDesk (Changes : Trees → Trees → Type 0) (old new : Database) : Type 0 where
  pub ready : IsReady old → IsReady new
  pub changes : IsReady old → Changes old.trees new.trees

-- statements that change the tables of a desk so
abbrev pub Inside : {X : Type 0} → (Trees → Trees → Type 0) → State → State → Result X Error → Type 0
Inside Changes = Within (OnDesk Changes)

-- where it succeeds, the connection is open
abbrev pub Opens : {X : Type 0} → State → State → Result X Error → Type 0
Opens old new result = HasCleanDisk new → IsTrue old.in_transaction → OnOk result (IsTrue new.is_open)

-- how many rows a statement says that it changed
abbrev pub count_in : {E : Type 0} → Result ℕ E → ℕ
count_in (Ok count) = count
count_in (Err e) = 0

-- whether an error says that a row breaks a rule of its table, as that no two rows have one key
abbrev pub is_of_rules : ErrorCode → Bool
is_of_rules (ConstraintViolation rule) = true
is_of_rules code = false

abbrev pub is_violation : Error → Bool
is_violation (SqliteFailure code) = is_of_rules code
is_violation e = false

-- where a rule of the table refused it, nothing has changed, and the transaction goes on
abbrev pub Refuses : {X : Type 0} → State → State → Result X Error → Type 0
Refuses old new result = HasCleanDisk new → IsTrue old.in_transaction → IfErr result (λ e. IsTrue (is_violation e) → (new.now ≡ old.now) × IsTrue new.in_transaction)

-- a transaction that leads so from one database to the next, or leaves what was
pub record Transacts {X : Type 0} (Leads : Database → Database → Type 0) (old new : State) (result : Result X Error) : Type 0 where
  pub done : HasCleanDisk new → OnOk result (IsTrue old.is_open × IsTrue new.is_open × Leads old.now new.now)
  pub undone : IsTrue new.is_open → OnErr result (IsTrue old.is_open × (new.now ≡ old.now))
  pub survives : Survives old new (λ db. IsTrue old.is_open × ((after : Database) × (db ≡ after.trees) × Leads old.now after))

-- a query inside a transaction, which finds so much
pub record Looks {X : Type 0} (Found : Trees → X → Type 0) (old new : State) (result : Result X Error) : Type 0 where
  pub found : HasCleanDisk new → IsTrue old.in_transaction → IsDeskIfOpen old → IfOk result (λ x. (new.now ≡ old.now) × IsTrue new.is_open × Found old.now.trees x)
  pub kept : HasCleanDisk new → IsTrue old.in_transaction → KeepsCommit old new × OnOk result (IsTrue new.in_transaction)
  pub survives : Survives old new (λ _. ⊥)

-- a call that only reads, and what it found
pub record Serves {X : Type 0} (Found : Trees → X → Type 0) (old new : State) (result : Result X Error) : Type 0 where
  pub found : HasCleanDisk new → IsDeskIfOpen old → IfOk result (λ x. IsTrue old.is_open × IsTrue new.is_open × (new.now ≡ old.now) × Found old.now.trees x)
  pub undone : IsDeskIfOpen old → IsTrue new.is_open → OnErr result (IsTrue old.is_open × (new.now ≡ old.now))
  pub survives : IsDeskIfOpen old → Survives old new (λ db. IsTrue old.is_open × (db ≡ old.now.trees))
