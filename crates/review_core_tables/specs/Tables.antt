-- Rows that are put one after the other, at a key.
use Rattle.std.specs.BTreeMap.{is_at}
use Rattle.std.specs.Prelude.{[], List, ◌∷◌, Option, Some, if◌then◌else◌}
use Rattle.std.specs.declared.cmp.Ordering.{Ordering}

-- the row of a key after others are put, where it was this before
abbrev pub put_in : {K X : Type 0} → (K → K → Ordering) → List (K × X) → K → Option X → Option X
put_in cmp [] q before = before
put_in cmp (e ∷ es) q before = put_in cmp es q (if is_at (cmp e.0) q then Some e.1 else before)
