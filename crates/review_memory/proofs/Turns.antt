-- Which of many calls fails.
use Rattle.std.proofs.Common.{◌≡◌, ◌≢◌, ℕ, zero, suc, ◌+◌, ◌-◌, ◌≤◌, ◌==◌, ◌↔◌, Bool, true, false, cond, refl, ap, arith, eqb-true, eq-eqb}
use Rattle.std.proofs.lemmas.Bool.{eqb-false}
use Rattle.review_memory.specs.Faults.{is_next, is_past, after_calls}
use Rattle.review_memory.specs.declared.faulty.Turn.TheVariants.{Ahead, Past}

-- what is past stays past
past_stays : (n : ℕ) → after_calls Past n ≡ Past
past_stays zero = refl
past_stays (suc n) = past_stays n

next_later : (k n : ℕ) (b : Bool) → (k == 1) ≡ b → ((j : ℕ) → (is_next (after_calls (Ahead j) n) ≡ true) ↔ (j ≡ n + 1)) →
    (is_next (after_calls (cond b Past (Ahead (k - 1))) n) ≡ true) ↔ (k ≡ suc n + 1)
next_later k n true e later =
    let one : k ≡ 1 = eqb-true k 1 e in
    let past : is_next (after_calls Past n) ≡ false = ap is_next (past_stays n) in
    (λ h. absurd (cc), λ h. absurd (omega arith))
next_later k n false e later = (λ h. let less : k - 1 ≡ n + 1 = (later (k - 1)).0 h in omega arith, λ h. (later (k - 1)).1 (omega arith))

pub only_that : (k n : ℕ) → (is_next (after_calls (Ahead k) n) ≡ true) ↔ (k ≡ n + 1)
only_that k zero = (eqb-true k 1, eq-eqb k 1)
only_that k (suc n) = next_later k n (k == 1) refl (λ j. only_that j n)

past_later : (k n : ℕ) (b : Bool) → (k == 1) ≡ b → ((j : ℕ) → (is_past (after_calls (Ahead j) n) ≡ true) ↔ ((1 ≤ j) × (j ≤ n))) →
    (is_past (after_calls (cond b Past (Ahead (k - 1))) n) ≡ true) ↔ ((1 ≤ k) × (k ≤ suc n))
past_later k n true e later =
    let one : k ≡ 1 = eqb-true k 1 e in
    (λ h. (omega arith, omega arith), λ h. ap is_past (past_stays n))
past_later k n false e later =
    let other : k ≢ 1 = eqb-false k 1 e in (
      λ h. let low = ((later (k - 1)).0 h).0 in let high = ((later (k - 1)).0 h).1 in (omega arith, omega arith),
      λ h. let low = h.0 in let high = h.1 in (later (k - 1)).1 (omega arith, omega arith),
    )

pub past_from_then : (k n : ℕ) → (is_past (after_calls (Ahead k) n) ≡ true) ↔ ((1 ≤ k) × (k ≤ n))
past_from_then k zero = (λ h. absurd (cc), λ h. let low = h.0 in let high = h.1 in absurd (omega arith))
past_from_then k (suc n) = past_later k n (k == 1) refl (λ j. past_from_then j n)
