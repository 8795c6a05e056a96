-- Rows that learn what a look-up finds.
use denote.Enum.Declared.{values_one}
use Rattle.std.proofs.Common.{◌≡◌, ◌⊎◌, ℕ, List, Option, Some, None, true, false, cond, refl, sym, ap, ◌∙◌, inl, inr, ⊎_elim}
use Rattle.std.proofs.lemmas.Map.Lookups.{CmpEqualImpliesEq, exact_unsigned, exact_bytes}
use Rattle.std.specs.{Ordering.nat_cmp, Ordering.ordering_then, Ordering.is_eq, Prelude.option_map}
use Rattle.review_table.proofs.Places.{both_equal, exact_by_parts, by_exact}
use Rattle.review_machine_rows.proofs.Common.{Base, Equal, IsTotalOrder, Ordering, Rows, Want, cases_Bool, is_at, nat_list_cmp_total, on_total, row_in, rows_of, slice_cmp, tells_apart, then_total, tied_itself}
use Rattle.review_machine_rows.specs.Known.{Found, Members, known, known_by, group_of, held, meaning, want_cmp, Learns}
use Rattle.review_machine_rows.specs.Rows.{member_cmp, branch_cmp, base_cmp}
use Rattle.review_machine_rows.specs.contracts.rows.WantOrd.TheImpl.Laws.{total-law}
use Rattle.review_machine_rows.specs.declared.rows.{BranchKey.BranchKey as Branch, Counted.Counted, Found.Found as Kept}
use Rattle.review_machine_rows.specs.declared.rows.MemberKey.{MemberKey as Member}
use Rattle.review_machine_rows.specs.declared.rows.Counted.TheVariants as counted
use Rattle.review_machine_rows.specs.declared.rows.Want.TheVariants as want
use Rattle.review_machine_rows.specs.contracts.rows.CountedOrd.TheImpl as counted_order
use Rattle.review_machine_rows.specs.contracts.rows.Counted as counted_type
use Rattle.review_machine_rows.specs.contracts.rows.Want as want_type

pub exact_member : CmpEqualImpliesEq member_cmp
exact_member = exact_by_parts (slice_cmp nat_cmp) nat_cmp (λ (k : Member). k.group) (λ (k : Member). k.account) exact_bytes exact_unsigned (λ x y p q i. record { group = p i; account = q i })

pub exact_branch : CmpEqualImpliesEq branch_cmp
exact_branch = exact_by_parts (slice_cmp nat_cmp) (slice_cmp nat_cmp) (λ (k : Branch). k.project) (λ (k : Branch). k.branch) exact_bytes exact_bytes (λ x y p q i. record { project = p i; branch = q i })

-- an order by three parts
abbrev by_parts : Base → Base → Ordering
by_parts a b = ordering_then (slice_cmp nat_cmp a.branch b.branch) (slice_cmp nat_cmp a.commit b.commit)

exact_parts : (x y : Base) → by_parts x y ≡ Equal → (x.branch ≡ y.branch) × (x.commit ≡ y.commit)
exact_parts x y e = let both = both_equal (slice_cmp nat_cmp x.branch y.branch) (slice_cmp nat_cmp x.commit y.commit) e in (exact_bytes x.branch y.branch both.0, exact_bytes x.commit y.commit both.1)

pub exact_base : CmpEqualImpliesEq base_cmp
exact_base x y e =
    let both = both_equal (slice_cmp nat_cmp x.project y.project) (by_parts x y) e in
    let project = exact_bytes x.project y.project both.0 in
    let rest = exact_parts x y both.1 in
    λ i. record { project = project i; branch = rest.0 i; commit = rest.1 i }

pub branch_total : IsTotalOrder branch_cmp
branch_total = then_total (on_total (λ (k : Branch). k.project) nat_list_cmp_total) (on_total (λ (k : Branch). k.branch) nat_list_cmp_total)

-- a table with another row at a key
abbrev WithRow : {K X : Type 0} → (K → K → Ordering) → List (K × Option X) → K → X → List (K × Option X) → Type 0
WithRow {K} R old key row new = (q : K) → row_in R (rows_of new) q ≡ cond (is_at (R key) q) (Some row) (row_in R (rows_of old) q)

learned_here : {K X : Type 0} {R : K → K → Ordering} (total : IsTotalOrder R) (wrap : X → Found) (old new : List (K × Option X)) (key : K) (row : X) → WithRow R old key row new →
    option_map wrap (row_in R (rows_of new) key) ≡ Some (wrap row)
learned_here {R = R} total wrap old new key row with =
    ap (option_map wrap) (with key ∙ ap (λ b. cond b (Some row) (row_in R (rows_of old) key)) (ap is_eq (tied_itself total key)))

learned_there : {K X : Type 0} {R : K → K → Ordering} (exact : CmpEqualImpliesEq R) (wrap : X → Found) (ask : K → Want) (old new : List (K × Option X)) (key : K) (row : X) → WithRow R old key row new →
    (q : K) → (option_map wrap (row_in R (rows_of new) q) ≡ option_map wrap (row_in R (rows_of old) q)) ⊎ ((ask q ≡ ask key) × (option_map wrap (row_in R (rows_of new) q) ≡ Some (wrap row)))
learned_there {R = R} exact wrap ask old new key row with q = ⊎_elim
    (λ (t : is_at (R key) q ≡ true).
    inr (ap ask (sym (tells_apart exact key q t)), ap (option_map wrap) (with q ∙ ap (λ b. cond b (Some row) (row_in R (rows_of old) q)) t)))
    (λ (f : is_at (R key) q ≡ false). inl (ap (option_map wrap) (with q ∙ ap (λ b. cond b (Some row) (row_in R (rows_of old) q)) f)))
    (cases_Bool (is_at (R key) q))

abbrev counted_cmp : Counted → Counted → Ordering
counted_cmp a b = counted_order.ghosts.cmp a b

exact_counted : (x y : Counted) → counted_cmp x y ≡ Equal → x ≡ y
exact_counted x y e = values_one counted_type.enum x y (by_exact counted_type.enum.parts _ ((λ x y e. refl), ((λ x y e i. (exact_bytes x.0 y.0 e i, tt)), tt)) (counted_type.enum.as_values x) (counted_type.enum.as_values y) e)

-- the order of look-ups tells them apart: a line for each kind of key
pub exact_want : (x y : Want) → want_cmp x y ≡ Equal → x ≡ y
exact_want x y e =
    values_one want_type.enum x y (by_exact want_type.enum.parts _
    ((λ x y e. refl), ((λ x y e i. (exact_unsigned x.0 y.0 e i, tt)), ((λ x y e i. (exact_bytes x.0 y.0 e i, tt)), ((λ x y e. refl), ((λ x y e i. (exact_member x.0 y.0 e i, tt)), ((λ x y e i. (exact_bytes x.0 y.0 e i, tt)), ((λ x y e i. (exact_bytes x.0 y.0 e i, tt)), ((λ x y e i. (exact_bytes x.0 y.0 e i, tt)), ((λ x y e i. (exact_counted x.0 y.0 e i, tt)), ((λ x y e i. (exact_base x.0 y.0 e i, tt)), ((λ x y e i. (exact_branch x.0 y.0 e i, tt)), ((λ x y e i. (exact_branch x.0 y.0 e i, tt)), ((λ x y e i. (exact_unsigned x.0 y.0 e i, tt)), ((λ x y e i. (exact_base x.0 y.0 e i, tt)), ((λ x y e. refl), ((λ x y e i. (exact_branch x.0 y.0 e i, tt)), ((λ x y e i. (exact_base x.0 y.0 e i, tt)), ((λ x y e i. (exact_branch x.0 y.0 e i, tt)), ((λ x y e. refl), tt)))))))))))))))))))
    (want_type.enum.as_values x) (want_type.enum.as_values y) e)

want_total : IsTotalOrder want_cmp
want_total = total-law

-- what is known of the members of a group
pub knows_group : (rows : Rows) (w : Want) (group : List ℕ) → Some group ≡ group_of w → known rows w ≡ option_map held (row_in (slice_cmp nat_cmp) (rows_of rows.groups) group)
knows_group rows w group is = ap (known_by rows w) (sym is)

-- what is known of another look-up
pub knows_found : (rows : Rows) (w : Want) → None ≡ group_of w → known rows w ≡ option_map meaning (row_in want_cmp (rows_of rows.found) w)
knows_found rows w is = ap (known_by rows w) (sym is)

pub learns_group : (old : Rows) (t : List (List ℕ × Option (List (ℕ × Option (Unit {0}))))) (key : List ℕ) (row : List (ℕ × Option (Unit {0}))) → WithRow (slice_cmp nat_cmp) old.groups key row t → Learns (want.Group key) (Members (rows_of row)) old (record old { groups = t })
learns_group old t key row with = record { here = learned_here nat_list_cmp_total held old.groups t key row with; others = others }
  where
    others : (w : Want) → (known (record old { groups = t }) w ≡ known old w) ⊎ ((w ≡ (want.Group key)) × (known (record old { groups = t }) w ≡ Some (Members (rows_of row))))
    others (want.Group q) = learned_there exact_bytes held (λ x. (want.Group x)) old.groups t key row with q
    others w = inl refl

pub learns_found : (old : Rows) (t : List (Want × Option Kept)) (key : Want) (row : Kept) → group_of key ≡ None → WithRow want_cmp old.found key row t → Learns key (meaning row) old (record old { found = t })
learns_found old t key row plain with =
    record {
      here = knows_found (record old { found = t }) key (sym plain) ∙ learned_here want_total meaning old.found t key row with;
      others = λ w. others w (group_of w);
    }
  where
    others : (w : Want) (group : Option (List ℕ)) → (known_by (record old { found = t }) w group ≡ known_by old w group) ⊎ ((w ≡ key) × (known_by (record old { found = t }) w group ≡ Some (meaning row)))
    others w (Some group) = inl refl
    others w None = learned_there exact_want meaning (λ x. x) old.found t key row with w
