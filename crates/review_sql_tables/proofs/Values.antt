-- Values that keys have.
use Rattle.sqlite_keyed.proofs.KeyedLemmas.{same_int as whole}
use Rattle.review_sql_tables.proofs.Common.{◌≡◌, ◌∙◌, ℤ, true, Ordering, Equal, refl, sym, ap, tied_itself, is_eq, value_cmp_total, value_cmp-Int, value_cmp, Value, Int, is_value}

pub equal_is : (o : Ordering) → is_eq o ≡ true → o ≡ Equal
equal_is Equal h = refl
equal_is _ h = absurd (cc)

-- two values that a third equals
pub same_value : (v a b : Value) → is_eq (value_cmp v a) ≡ true → is_eq (value_cmp v b) ≡ true → value_cmp a b ≡ Equal
same_value v a b p q = sym (value_cmp_total.congr v a b (equal_is _ p)) ∙ equal_is _ q

pub same_whole : (v : Value) (m n : ℤ) → is_eq (value_cmp v (Int m)) ≡ true → is_eq (value_cmp v (Int n)) ≡ true → m ≡ n
same_whole v m n p q = let e = sym (value_cmp-Int m n) ∙ same_value v (Int m) (Int n) p q in whole m n (ap is_eq e)

-- the value that has this integer
pub int_is : (v : Value) (n : ℤ) → is_value v (Int n) ≡ true → v ≡ Int n
int_is (Int m) n has = ap Int (same_whole (Int m) m n (ap is_eq (tied_itself value_cmp_total (Int m))) has)
int_is _ n has = absurd (cc)
