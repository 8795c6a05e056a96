-- Rows at keys.
use Rattle.std.proofs.lemmas.List.{nil_from_length}
use Rattle.review_sql_tables.proofs.Common.{◌≡◌, ◌≢◌, ◌∙◌, ◌+◌, ◌≤◌, ℕ, ℤ, pos, List, [], ◌∷◌, filter, length, Bool, true, false, not, Some, None, refl, sym, ap, subst, inl, inr, arith, cases_Bool, both_ways, tied_itself, exact_bytes, is_eq, filter-filter, Trees, value_cmp_total, value_cmp-Text, Row, value_cmp, Value, Int, Text, has_key, is_value, IsAdded, Remakes, Removes, SparesOthers, At, Search, reads, only, SetsRow, Then}
use Rattle.review_sql_tables.specs.{Search.Form, Search.IsLawful, Search.Puts, inner.Words.Sets}
pub use Rattle.review_sql_tables.proofs.Values.{equal_is, same_value, same_whole, int_is}

pub same_int : (v : Value) (m n : ℕ) → is_value v (Int (pos m)) ≡ true → is_value v (Int (pos n)) ≡ true → m ≡ n
same_int v m n p q = let e = sym (int_is v (pos m) p) ∙ int_is v (pos n) q in cc

pub same_text : (v : Value) (s t : List ℕ) → is_eq (value_cmp v (Text s)) ≡ true → is_eq (value_cmp v (Text t)) ≡ true → s ≡ t
same_text v s t p q = let e = sym (value_cmp-Text s t) ∙ same_value v (Text s) (Text t) p q in exact_bytes s t e

-- the value that has this text
pub text_is : (v : Value) (t : List ℕ) → is_value v (Text t) ≡ true → v ≡ Text t
unfolding value_cmp
text_is (Text s) t has = ap Text (same_text (Text s) s t (ap is_eq (tied_itself value_cmp_total (Text s))) has)
text_is _ t has = absurd (cc)

pub itself : (v : Value) → is_eq (value_cmp v v) ≡ true
itself v = ap is_eq (tied_itself value_cmp_total v)

-- what is left of the rows of a key where they were taken out
none_left : (key : At) (rows : List Row) → filter (has_key key) (filter (λ r. not (has_key key r)) rows) ≡ []
none_left key [] = refl
none_left key (r ∷ rows) = elim (cases_Bool (has_key key r)) [ inl is ↦ rw is (none_left key rows) | inr apart ↦ rw (apart, apart) (none_left key rows) ]

left_apart : (key : At) (p : Row → Bool) → ((r : Row) → has_key key r ≡ true → p r ≡ false) → (rows : List Row) → filter p (filter (λ r. not (has_key key r)) rows) ≡ filter p rows
left_apart key p apart rows = filter-filter p (λ r. not (has_key key r)) (λ r is. elim (cases_Bool (has_key key r)) [ inl both ↦ absurd (both_ways (p r) (apart r both) is) | inr other ↦ ap not other ]) rows

left_counted : (key : At) (p : Row → Bool) → ((r : Row) → has_key key r ≡ true → p r ≡ true) → (rows : List Row) → length (filter p (filter (λ r. not (has_key key r)) rows)) + length (filter (has_key key) rows) ≡ length (filter p rows)
left_counted key p among [] = refl
left_counted key p among (r ∷ rows) = elim (cases_Bool (has_key key r)) [
  | inl is ↦ let more = left_counted key p among rows in rw (is, among r is) (omega (arith, more))
  | inr apart ↦ elim (cases_Bool (p r)) [
    | inl has ↦ let more = left_counted key p among rows in rw (apart, has) (omega (arith, more))
    | inr none ↦ rw (apart, none) (left_counted key p among rows)
  ]
]

pub spares_then : (tree : ℕ) (a b c : Trees) → SparesOthers tree a b → SparesOthers tree b c → SparesOthers tree a c
spares_then tree a b c p q t is other = q t is other ∙ p t is other

-- the rows of a key were taken out
pub taken : (tree : ℕ) (key : At) (a b : Trees) → Removes tree key a b → Sets tree key [] a b
taken tree key a b gone = record {
  here = ap (filter (has_key key)) gone.rows ∙ none_left key (a tree);
  there = λ p apart. ap (filter p) gone.rows ∙ left_apart key p apart (a tree);
  others = gone.others;
}

-- of the rows but those of a key and one row of the key
pub has_one : (tree : ℕ) (key : At) (row : Row) (a b : Trees) → has_key key row ≡ true → IsAdded row (filter (λ r. not (has_key key r)) (a tree)) (b tree) → SparesOthers tree a b → Sets tree key (row ∷ []) a b
has_one tree key row a b has come others = record {
  here = come.first (has_key key) has (none_left key (a tree));
  there = λ p apart. come.other p (apart row has) ∙ left_apart key p apart (a tree);
  others = others;
}

-- where no row has a key, all rows are others
all_others : (key : At) (rows : List Row) → filter (has_key key) rows ≡ [] → filter (λ r. not (has_key key r)) rows ≡ rows
all_others key [] none = refl
all_others key (r ∷ rows) none = elim (cases_Bool (has_key key r)) [
  | inl is ↦ absurd (let e = rw is at none in cc)
  | inr apart ↦ let less : filter (has_key key) rows ≡ [] = rw apart at none in rw apart (ap (λ l. r ∷ l) (all_others key rows less))
]

module _ {A X : Type 0} (s : Search A X) (f : Form A X) (lawful : IsLawful s f) where
  keys_apart : (a b : A) → a ≢ b → (r : Row) → has_key (s.at b) r ≡ true → has_key (s.at a) r ≡ false
  keys_apart a b other r is = elim (cases_Bool (has_key (s.at a) r)) [ inl too ↦ absurd (other (lawful.exact a b r too is)) | inr apart ↦ apart ]

  pub row_gone : (key : A) (old new : Trees) → f.is_key key ≡ true → Removes s.tree (s.at key) old new → SetsRow s key None old new
  row_gone key old new formed gone = let it = taken s.tree (s.at key) old new gone in record {
    here = ap (only (reads s)) it.here;
    there = λ a other. ap (only (reads s)) (it.there (has_key (s.at a)) (λ r. keys_apart a key other r));
    apart = it.there;
    counted = λ p among. let e = left_counted (s.at key) p among (old s.tree) in let n = ap (λ l. length (filter p l)) gone.rows in omega (arith, e, n);
    formed = λ r has. lawful.known key r formed has;
    others = it.others;
  }

  module _ (key : A) (x : X) (formed : f.is_key key ≡ true) (good : f.is_good x ≡ true) where
    -- the rows but those of the key, and the row
    pub row_set : (old new : Trees) (id : ℤ) → IsAdded (f.stored key x id) (filter (λ r. not (has_key (s.at key) r)) (old s.tree)) (new s.tree) → SparesOthers s.tree old new → SetsRow s key (Some x) old new
    row_set old new id come others =
        let has = lawful.keyed key x id in
        let it = has_one s.tree (s.at key) (f.stored key x id) old new has come others in record {
          here = ap (only (reads s)) it.here ∙ ap Some (lawful.reads_back key x id good);
          there = λ a other. ap (only (reads s)) (it.there (has_key (s.at a)) (λ r. keys_apart a key other r));
          apart = it.there;
          counted = λ p among.
              let e = left_counted (s.at key) p among (old s.tree) in
              let more = come.count p (among (f.stored key x id) has) in
              omega (arith, e, more);
          formed = λ r at. lawful.known key r formed at;
          others = it.others;
        }

    -- what the key had was taken away, and the row put in
    pub row_put : (old new : Trees) → Then (Removes s.tree (s.at key)) (Puts s f key x) old new → SetsRow s key (Some x) old new
    row_put old new both = row_set old new both.2.0 (subst (λ l. IsAdded (f.stored key x both.2.0) l (new s.tree)) both.1.rows both.2.1.rows) (spares_then s.tree old both.0 new both.1.others both.2.1.others)

    -- the key had no row, and this one was put in
    pub row_first : (old new : Trees) → filter (has_key (s.at key)) (old s.tree) ≡ [] → Puts s f key x old new → SetsRow s key (Some x) old new
    row_first old new none put = row_set old new put.0 (subst (λ l. IsAdded (f.stored key x put.0) l (new s.tree)) (sym (all_others (s.at key) (old s.tree) none)) put.1.rows) put.1.others

    -- the row was put in, and no other row has its key
    pub row_new : (old new : Trees) → length (filter (has_key (s.at key)) (new s.tree)) ≤ 1 → Puts s f key x old new → SetsRow s key (Some x) old new
    row_new old new single put =
        let more = put.1.rows.count (has_key (s.at key)) (lawful.keyed key x put.0) in
        row_first old new (nil_from_length _ (omega (arith, single, more))) put

    -- the rows of the key got other values
    module _ (old mid : Trees) (count : ℕ) (it : Remakes s.tree (s.at key) (f.stored key x) count old mid) where
      -- and there was one
      pub row_remade : count ≡ 1 → SetsRow s key (Some x) old mid
      row_remade is = let one = it.one is in row_set old mid one.0 one.1 it.others

      beside : (p : Row → Bool) → ((r : Row) → has_key (s.at key) r ≡ true → p r ≡ false) → filter p (mid s.tree) ≡ filter p (old s.tree)
      beside p apart = sym (left_apart (s.at key) p apart (mid s.tree)) ∙ (ap (filter p) it.apart ∙ left_apart (s.at key) p apart (old s.tree))

      -- and then the key got the row
      pub row_again : (new : Trees) → SetsRow s key (Some x) mid new → SetsRow s key (Some x) old new
      row_again new set = record {
        here = set.here;
        there = λ a other. set.there a other ∙ ap (only (reads s)) (beside (has_key (s.at a)) (λ r. keys_apart a key other r));
        apart = λ p apart. set.apart p apart ∙ beside p apart;
        counted = λ p among.
            let a = left_counted (s.at key) p among (mid s.tree) in
            let b = left_counted (s.at key) p among (old s.tree) in
            let c = ap (λ l. length (filter p l)) it.apart in
            let d = set.counted p among in
            omega (arith, a, b, c, d);
        formed = set.formed;
        others = spares_then s.tree old mid new it.others set.others;
      }

      -- and as there was none, the row was put in
      pub row_then_first : count ≡ 0 → (new : Trees) → Puts s f key x mid new → SetsRow s key (Some x) old new
      row_then_first is new put = row_again new (row_first mid new (it.none is) put)
