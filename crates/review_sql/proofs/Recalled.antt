-- What is told of an identity.
use Rattle.review_sql_tables.proofs.Common.{◌≡◌, ◌∙◌, Option, Some, None, Result, Ok, Err, IfOk, IfErr, IsTrue, sym, ap, subst, nat_lt, Held, state, Ghosts}
use Rattle.review_machine_rows.specs.{Shelf.Answers, declared.rows.Recalled.Recalled}
use Rattle.review_sql_records.proofs.Common.{Identity, AnswerRow, Answered, Tables, kept_row, BlamesTables, IsDamaged, IsRecalled, KeepsTables, LeavesBy, Shows, Blames, cause_of, Kept, ShelfFault, Damaged, request_key}
use Rattle.review_sql_lookups.specs.Tables.{least_in, stored_as, tables_at}
use Rattle.review_sql_writes.specs.{Commits.IsDesk, declared.numbers.Numbers.Numbers}
use Rattle.review_sql.proofs.Shown.{odd_is_damage, shown_now}
use Rattle.review_sql.specs.Shelf.{IsLookedUp, IsLookedUpIn, tables_of}
use Rattle.review_sql.specs.declared.serving.LookedUp.{LookedUp, TheVariants.Closed, TheVariants.Open}

-- a stored request with its identity is what is told of it
pub kept_told : (t : Tables) (i : Identity) (row : AnswerRow) (kept : Kept) → Answers t i (Some (Answered row)) → kept_row kept ≡ row → Answers t i (Some (Answered (kept_row kept)))
kept_told t i row kept there is = (there.0, there.1 ∙ ap (λ r. Some (Answered r)) (sym is))

-- what was told leaves the tables, and blames them only where what the key has is odd
pub keeps_recalled : (P : Type 0) (r : Result Recalled ShelfFault) (old new : Option Tables) → IfErr r (λ e. (e ≡ Damaged) × P) → new ≡ old → KeepsTables r old new
keeps_recalled P (Ok x) old new err same = same
keeps_recalled P (Err e) old new err same = subst (λ f. LeavesBy (cause_of f) old new) (sym err.0) same

module _ {S : Type 0} (g : Ghosts S) (conn : Held S) (numbers : Numbers) (i : Identity) (is_open : IsTrue (state g conn).is_open) (desk : IsDesk numbers (state g conn).now.trees) (r : Result Recalled ShelfFault) where
  -- what was seen of the key is so of the tables
  seen : (looked : LookedUp) → IsLookedUp (request_key i) numbers.least (state g conn).now.trees looked → IsLookedUpIn (tables_at (state g conn).now.trees) i looked
  seen Closed below = ap (nat_lt i.epoch) (ap least_in desk.least_is) ∙ below
  seen (Open found) it = (ap (nat_lt i.epoch) (ap least_in desk.least_is) ∙ it.0, ap (stored_as i) (sym it.1))

  module _ (looked : LookedUp) (is : IsLookedUp (request_key i) numbers.least (state g conn).now.trees looked) where
    pub shows_recalled : ((t : Tables) → IsLookedUpIn t i looked → IfOk r (IsRecalled t i)) → IfOk r (λ x. Shows (tables_of g conn) (λ t. IsRecalled t i x))
    shows_recalled told = by r (told (tables_at (state g conn).now.trees) (seen looked is))
      where
        by : (q : Result Recalled ShelfFault) → IfOk q (IsRecalled (tables_at (state g conn).now.trees) i) → IfOk q (λ x. Shows (tables_of g conn) (λ t. IsRecalled t i x))
        by (Ok x) so = shown_now g conn conn (λ t. IsRecalled t i x) is_open so
        by (Err e) so = tt

    pub blames_recalled : IfErr r (λ e. (e ≡ Damaged) × (looked ≡ Open (Some None))) → BlamesTables r (tables_of g conn)
    blames_recalled err = by r err
      where
        odd : looked ≡ Open (Some None) → IsDamaged (tables_at (state g conn).now.trees)
        odd at = let it = seen (Open (Some None)) (subst (IsLookedUp (request_key i) numbers.least (state g conn).now.trees) at is) in odd_is_damage (tables_at (state g conn).now.trees) i it.1

        by : (q : Result Recalled ShelfFault) → IfErr q (λ e. (e ≡ Damaged) × (looked ≡ Open (Some None))) → BlamesTables q (tables_of g conn)
        by (Ok x) h = tt
        by (Err e) h = subst (λ f. Blames f (tables_of g conn)) (sym h.0) (shown_now g conn conn IsDamaged is_open (odd h.1))
