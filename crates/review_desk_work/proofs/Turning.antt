-- How serving ends.
use Rattle.std.proofs.Common.{◌≡◌, ◌<◌, ◌+◌, ◌⊎◌, ◌∙◌, ℕ, Bool, true, false, List, [], ◌∷◌, Some, None, Result, Ok, Err, inl, inr, length, zero, suc, refl, sym, ap, arith, subst, ◌==◌, if◌then◌else◌, ◌≤◌, IsErrAnd}
use Rattle.{std.proofs.lemmas.Bool.Decides.nat_tests, sqlite.specs.Held.Held}
use Rattle.{sqlite_trees.specs.declared.store.Store.Ghosts, review_machine_rows.specs.Shelf.Shown}
use Rattle.review_http.specs.Peers.{Exchange, Peers, ServedAll, ServedEach}
use Rattle.review_http.specs.declared.connections.ConnectionsFault.{ConnectionsFault}
use Rattle.review_http.specs.declared.connections.ConnectionsFault.TheVariants.{Network, Output}
use Rattle.review_json_lines.specs.declared.fault.Outcome.{Outcome, TheVariants.Complete}
use Rattle.review_sql.specs.{Shelf.shown, declared.faults.DeskFault.DeskFault}
use Rattle.review_desk_work.specs.Faults.{desk_fault, serve_outcome, after_closing}
use Rattle.review_desk_work.specs.Worked.{left_by, Turn, AreTurns, ServedInTurns, in_row, Known, Does, EndsServed, IsDoneOn, IsRefusedDesk, OnShelf, Worked, HasDone}
use Rattle.review_desk_work.specs.declared.fault.ProgramFault.{ProgramFault}
use Rattle.review_desk_work.specs.declared.fault.ProgramFault.TheVariants.{Memory, ServedInPart, Store}
use Rattle.review_desk_work.specs.declared.task.Task.{Task}
use Rattle.review_desk_work.specs.declared.task.Task.TheVariants.{Serve, Apply, Show, Joined}
use Rattle.review_sql.specs.declared.faults.DeskFault.TheVariants as desk

-- ==== serving that ends behind a fault of the store has served one connection at least

is_some : (n : ℕ) → (suc n == 0) ≡ false
is_some n = grind (arith, nat_tests)

module _ {X : Type 0} (state : X → Shown) (count : ℕ) (before after : Peers) (old new : X) where
  some : (n : ℕ) (all : ServedAll state before after count {E = ConnectionsFault} (Ok (suc n)) old new) (exchanges : List Exchange) → exchanges ≡ all.exchanges → suc n < count
  some n all [] is =
      let each : ServedEach state (state old).faults [] all.taken old new = subst (λ (l : List Exchange). ServedEach state (state old).faults l all.taken old new) (sym is) all.each in
      absurd (all.stopped (omega arith) (ap (λ (x : X). (state x).faults) each.1))
  some n all (first ∷ others) is =
      let counted : length (first ∷ others) + suc n ≡ count = subst (λ (l : List Exchange). length l + suc n ≡ count) (sym is) all.all in
      omega (arith, counted)

  by_told : (rest : ℕ) (told : Result ℕ ConnectionsFault) → left_by (serve_outcome told) ≡ Some rest → ServedAll state before after count told old new → rest < count
  by_told rest (Ok zero) is all = let none : None ≡ Some rest = is in cc
  by_told rest (Ok (suc n)) is all =
      let left : Some (suc n) ≡ Some rest = ap (λ (b : Bool). left_by (if b then Ok Complete else Err (ServedInPart (suc n)))) (sym (is_some n)) ∙ is in
      let same : suc n ≡ rest = cc in
      subst (λ (k : ℕ). k < count) same (some n all all.exchanges refl)
  by_told rest (Err Network) is all = let none : None ≡ Some rest = is in cc
  by_told rest (Err Output) is all = let none : None ≡ Some rest = is in cc

  by_done : (rest : ℕ) (ended : Result Outcome ProgramFault) → left_by ended ≡ Some rest → ((ended ≡ Err Memory) × (new ≡ old) × (after ≡ before)) ⊎ EndsServed state count before after ended old new → rest < count
  by_done rest ended is (inl memory) = let none : None ≡ Some rest = ap left_by (sym memory.0) ∙ is in cc
  by_done rest ended is (inr served) = by_told rest served.told (ap left_by (sym served.ends) ∙ is) served.served

not_refused : (rest : ℕ) (fault : DeskFault) → left_by (Err (desk_fault fault)) ≡ Some rest → ⊥
not_refused rest desk.NotADesk is = let none : None ≡ Some rest = is in cc
not_refused rest _ is = let none : None ≡ Some rest = is in cc

module _ {S : Type 0} (g : Ghosts S) (count rest : ℕ) (before after : Known) (ended : Result Outcome ProgramFault) (is : left_by ended ≡ Some rest) where
  on_shelf : (is_ours : Bool) (old new : Held S) → OnShelf g is_ours (Does (Serve count) before after ended) old new → rest < count
  on_shelf is_ours old new done = by_done (shown g is_ours) count before.peers after.peers done.opened done.left rest ended is done.did.0.0

  refused : (old new : Held S) → IsRefusedDesk g before after old new ended → rest < count
  refused old new done = absurd (not_refused rest done.fault (ap left_by (sym done.ends) ∙ is))

  by_how : (old new : Held S) → IsDoneOn g (Does (Serve count) before after ended) (λ (s t : Held S). IsRefusedDesk g before after s t ended) old new → rest < count
  by_how old new (inl done) = on_shelf true old new done
  by_how old new (inr (inl none)) = refused old new none
  by_how old new (inr (inr (between, others, inl done))) = on_shelf false between new done
  by_how old new (inr (inr (between, others, inr none))) = refused between new none

  -- fewer are left than there were
  pub fewer_left : (old new : Held S) → Worked g (Serve count) before after ended old new → rest < count
  fewer_left old new worked = by_how old new worked.how

-- ==== turns of serving: how they end

-- an error that another one was told as is that one
pub is_error : (result : Result Outcome ProgramFault) (fault : ProgramFault) → IsErrAnd result (λ (f : ProgramFault). f ≡ fault) → result ≡ Err fault
is_error (Ok done) fault is = absurd is
is_error (Err f) fault is = ap Err is

-- it was opened again too many times in a row only where each of them served one connection
pub too_many : (left had row now : ℕ) → now ≡ (if left + 1 == had then row + 1 else 1) → 8 < now → row ≤ 8 → (left + 1 ≡ had) × (row ≡ 8)
too_many left had row now is many few = by (left + 1 == had) refl is
  where
    by : (b : Bool) → (left + 1 == had) ≡ b → now ≡ (if b then row + 1 else 1) → (left + 1 ≡ had) × (row ≡ 8)
    by true same last = (grind (arith, nat_tests), omega (arith, last))
    by false same last = absurd (omega (arith, last))

module _ {S : Type 0} (g : Ghosts S) (first : Held S) (opens : Held S → Type 0) (closes : Held S → Result (Unit {0}) ProgramFault → Type 0) (count : ℕ) (before : Known) where
  module _ (turns : List (Turn S)) (t : Turn S) (are : AreTurns g first opens closes count before (t ∷ turns)) (few : in_row (t ∷ turns) ≤ 8) where
    -- the last turn ended otherwise than behind a fault of the store
    pub ended : (closed : Result (Unit {0}) ProgramFault) (result : Result Outcome ProgramFault) → left_by t.ended ≡ None → closes t.new closed → result ≡ after_closing t.ended closed → ServedInTurns g first opens closes count before t.after result
    ended closed result none closes_it is = record { turns = t ∷ turns; are = are; few = few; ends = (refl, inl (none, (closed, closes_it, is))) }

    -- it was opened again too often
    pub given_up : (rest : ℕ) → left_by t.ended ≡ Some rest → rest + 1 ≡ t.count → in_row (t ∷ turns) ≡ 8 → ServedInTurns g first opens closes count before t.after t.ended
    given_up rest is single row = record { turns = t ∷ turns; are = are; few = few; ends = (refl, inr (rest, is, inl (refl, single, row))) }

    -- it didn't open again
    pub shut : (rest : ℕ) (fault : ProgramFault) (result : Result Outcome ProgramFault) → left_by t.ended ≡ Some rest → (fault ≡ Store) ⊎ (fault ≡ Memory) → result ≡ Err fault → ServedInTurns g first opens closes count before t.after result
    shut rest fault result is cause failed = record { turns = t ∷ turns; are = are; few = few; ends = (refl, inr (rest, is, inr (fault, cause, failed))) }

-- ==== what a task did doesn't rest on what was told before it

module _ {X : Type 0} (state : X → Shown) (before after : Known) (is_warned : Bool) (ended : Result Outcome ProgramFault) (old new : X) where
  pub done_before : (task : Task) → HasDone state task (record before { is_warned = is_warned }) after ended old new → HasDone state task before after ended old new
  done_before Apply done = done
  done_before (Serve count) done = done
  done_before (Show change) done = done
  done_before (Joined project branch) done = done
