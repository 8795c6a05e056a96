-- What a delta has: nothing, or edits of changes, or other parts.
use Rattle.std.specs.Prelude.{[], ℕ, List, ◌≡◌, Option, None}
use Rattle.review_table.specs.declared.table.RowEdit.{RowEdit}
use Rattle.review_machine_rows.specs.declared.rows.{ChangeEdit.ChangeEdit, Delta.Delta, MemberKey.MemberKey}
use Rattle.review_machine_rows.specs.declared.rows.{PlaceKey.PlaceKey, Put.Put, StoredFile.StoredFile}

-- what a delta may have: edits of accounts and of members, the file and the base that are put, edits of changes, and the least open epoch
pub record DeltaView : Type 0 where
  pub accounts : List (RowEdit ℕ (List ℕ))
  pub members : List (RowEdit MemberKey (Unit {0}))
  pub file : Option (Put (List ℕ) StoredFile)
  pub base : Option (Put PlaceKey (List ℕ))
  pub changes : List ChangeEdit
  pub epoch : Option ℕ

-- a delta has that, and nothing else
pub record IsDelta (v : DeltaView) (delta : Delta) : Type 0 where
  pub accounts : delta.accounts.items ≡ v.accounts
  pub members : delta.members.items ≡ v.members
  pub file : delta.file ≡ v.file
  pub base : delta.base ≡ v.base
  pub changes : delta.changes.items ≡ v.changes
  pub epoch : delta.least_epoch ≡ v.epoch

-- no rows and no epoch
abbrev pub no_edits : DeltaView
no_edits = record { accounts = []; members = []; file = None; base = None; changes = []; epoch = None }

-- a delta without rows and without an epoch
abbrev pub IsEmpty : Delta → Type 0
IsEmpty delta = IsDelta no_edits delta

-- a delta with edits of changes, and nothing else
abbrev pub EditsChanges : List ChangeEdit → Delta → Type 0
EditsChanges edits delta = IsDelta (record no_edits { changes = edits }) delta
