-- Counts of faults fit their type.
use Rattle.std.proofs.Common.{ℕ, ◌+◌, ◌≤◌, Bool, true, false, zero-le}
use Rattle.std.{proofs.Math.Nat.min-le_right, specs.Prelude.min}
use Rattle.review_machine_rows.specs.Count.{greatest_count, one_more}

-- no fault is a count that fits
pub none_fits : 0 ≤ greatest_count
none_fits = zero-le

-- one fault more fits
pub one_more_fits : (failed : Bool) (n : ℕ) → n ≤ greatest_count → one_more failed n ≤ greatest_count
one_more_fits true n fits = min-le_right (n + 1) greatest_count
one_more_fits false n fits = fits

-- a sum of faults, cut at the greatest count, fits
pub sum_fits : (n m : ℕ) → min (n + m) greatest_count ≤ greatest_count
sum_fits n m = min-le_right (n + m) greatest_count
