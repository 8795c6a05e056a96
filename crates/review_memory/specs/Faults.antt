-- What shelves show that fail a call or shut, and which call that is: a shelf's turn says how many calls are left until then, or that it is past.
use Rattle.std.specs.Prelude.{ℕ, zero, suc, ◌+◌, ◌-◌, ◌≤◌, ◌≡◌, ◌↔◌, ◌==◌, Bool, true, false, min, None, Result, Err, if◌then◌else◌}
use Rattle.review_machine_rows.specs.Shelf.{Shown, CountsFaults, one_more, greatest_count}
use Rattle.review_machine_rows.specs.declared.shelf.ShelfFault.{ShelfFault, TheVariants.Store}
use Rattle.review_memory.specs.declared.faulty.{FaultyShelf.FaultyShelf, Turn.Turn}
use Rattle.review_memory.specs.declared.faulty.Turn.TheVariants.{Ahead, Past}
use Rattle.review_memory.specs.declared.shutting.ShuttingShelf.{ShuttingShelf}

-- the next call fails
abbrev pub is_next : Turn → Bool
is_next (Ahead n) = n == 1
is_next Past = false

-- after one more call
abbrev pub after_call : Turn → Turn
after_call (Ahead n) = if n == 1 then Past else Ahead (n - 1)
after_call Past = Past

-- whether the call whose turn it was has come
abbrev pub is_past : Turn → Bool
is_past (Ahead n) = false
is_past Past = true

-- after so many calls
abbrev pub after_calls : Turn → ℕ → Turn
after_calls turn zero = turn
after_calls turn (suc n) = after_calls (after_call turn) n

-- Of many calls the k-th fails and no other: after n of them the next one fails just where it is the k-th.
abbrev pub OnlyThatFails : Type 0
OnlyThatFails = (k n : ℕ) → (is_next (after_calls (Ahead k) n) ≡ true) ↔ (k ≡ n + 1)

-- From the k-th call on it is past, and not before: after n calls just where the k-th is one of them.
abbrev pub IsPastFromThen : Type 0
IsPastFromThen = (k n : ℕ) → (is_past (after_calls (Ahead k) n) ≡ true) ↔ ((1 ≤ k) × (k ≤ n))

-- what the shelf below shows, with one fault more once a call has failed
abbrev pub failing : Bool → Shown → Shown
failing failed s = record { tables = s.tables; is_honest = s.is_honest; faults = one_more failed s.faults; stops = s.stops }

-- what a faulty shelf shows
abbrev pub faulty : {T : Type 0} → (T → Shown) → FaultyShelf T → Shown
faulty shown s = failing (is_past s.turn) (shown s.inner)

-- The call whose turn it is answers Store, and the shelf below doesn't see it; after any other the count of faults went as the shelf below counts.
pub record FailsInTurn {T X : Type 0} (shown : T → Shown) (old : FaultyShelf T) (result : Result X ShelfFault) (new : FaultyShelf T) : Type 0 where
  pub turn : new.turn ≡ after_call old.turn
  pub fails : is_next old.turn ≡ true → (result ≡ Err Store) × (new.inner ≡ old.inner)
  pub passes : is_next old.turn ≡ false → CountsFaults result (shown old.inner).faults (shown new.inner).faults

-- what is shown over another shelf, where it is shut or not, and refused so many calls
abbrev pub shut_or_not : Bool → ℕ → Shown → Shown
shut_or_not shut refused s = record { tables = if shut then None else s.tables; is_honest = s.is_honest; faults = min (s.faults + refused) greatest_count; stops = s.stops }

-- what a shutting shelf shows
abbrev pub shutting : {T : Type 0} → (T → Shown) → ShuttingShelf T → Shown
shutting shown s = shut_or_not (is_past s.turn) s.refused (shown s.inner)

-- Whose turn it is then: once that is past, the shelf is shut and the call answers Store; before, the count of faults went as the shelf below counts.
pub record ShutsInTurn {T X : Type 0} (shown : T → Shown) (old : ShuttingShelf T) (result : Result X ShelfFault) (next : Turn) (new : ShuttingShelf T) : Type 0 where
  pub turn : new.turn ≡ next
  pub refuses : is_past next ≡ true → result ≡ Err Store
  pub passes : is_past next ≡ false → CountsFaults result (shown old.inner).faults (shown new.inner).faults
