-- What a binary search of a set's numbers finds.
use Rattle.std.proofs.Common.{◌≡◌, ℕ, ◌<◌, ◌≤◌, List, length, get_or, false, arith, sym}
use Rattle.std.proofs.lemmas.Bool.Decides.{nat_tests}
use Rattle.std.proofs.lemmas.List.{get_or_default, Folds.list_any_at, Folds.list_any_none, Sorted.searched}
use Rattle.std.proofs.lemmas.Map.Keys.{non_decreasing_from_sorted}
use Rattle.std.specs.{List.list_any, List.Sorted.IsStrictlySortedBy, List.Sorted.IsBinarySearchResult, Ordering.nat_cmp}
use Rattle.std.specs.Prelude.{Result, Ok, Err, ◌==◌, is_ok}

other : (xs : List ℕ) (x k d : ℕ) → k < length xs → {i : ℕ} → (k < i → get_or xs k 0 < x) → (i ≤ k → x < get_or xs k 0) → (get_or xs k d == x) ≡ false
other xs x k d within below above =
    let same = get_or_default xs k d 0 within in
    grind (arith, nat_tests, same, below, above)

pub found : (xs : List ℕ) (x : ℕ) (r : Result ℕ ℕ) → IsStrictlySortedBy nat_cmp xs → IsBinarySearchResult (λ y. nat_cmp y x) xs r → is_ok r ≡ list_any (λ n. n == x) xs
found xs x (Ok i) sorted h =
    let at = searched xs x (Ok i) h (λ i j below within. non_decreasing_from_sorted xs sorted i j 0 below within) in
    sym (list_any_at (λ n. n == x) xs i 0 at.0 (grind (arith, nat_tests, at.1)))
found xs x (Err i) sorted h =
    let at = searched xs x (Err i) h (λ i j below within. non_decreasing_from_sorted xs sorted i j 0 below within) in
    sym (list_any_none (λ n. n == x) xs (λ k d within. other xs x k d within (at.1 k) (λ above. at.2 k above within)))
