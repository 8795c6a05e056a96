-- Tables by their trees.
use Rattle.review_sql_tables.proofs.Common.{◌≡◌, ℕ, ◌||◌, Bool, true, false, List, [], ◌∷◌, eqb, eqb-true, sym, subst, inl, inr, and_parts, both_ways, cases_Bool, or_cases, AllByRecursion, list_all, list_any, Table, Trees, Row}

-- one of these tables has this tree
abbrev pub has_tree : List Table → ℕ → Bool
has_tree tables tree = list_any (λ x. eqb x.tree tree) tables

pub at_tree : (P : ℕ → Type 0) (tables : List Table) → AllByRecursion (λ x. P x.tree) tables → (t : ℕ) → has_tree tables t ≡ true → P t
at_tree P [] all t is = absurd (cc)
at_tree P (x ∷ tables) all t is = elim (or_cases _ _ is) [ inl here ↦ subst P (eqb-true x.tree t here) all.0 | inr later ↦ at_tree P tables all.1 t later ]

pub all_both : {X : Type 0} {P Q R : X → Type 0} (xs : List X) → ((x : X) → P x → Q x → R x) → AllByRecursion P xs → AllByRecursion Q xs → AllByRecursion R xs
all_both [] f p q = tt
all_both (x ∷ xs) f p q = (f x p.0 q.0, all_both xs f p.1 q.1)

pub all_weaker : {X : Type 0} {P Q : X → Type 0} (xs : List X) → ((x : X) → P x → Q x) → AllByRecursion P xs → AllByRecursion Q xs
all_weaker [] f p = tt
all_weaker (x ∷ xs) f p = (f x p.0, all_weaker xs f p.1)

-- what holds of tables holds of others with their trees
pub covered : (P : ℕ → Type 0) (tables others : List Table) → AllByRecursion (λ x. P x.tree) tables → list_all (λ o. has_tree tables o.tree) others ≡ true → AllByRecursion (λ x. P x.tree) others
covered P tables [] all within = tt
covered P tables (o ∷ others) all within = let parts = and_parts _ _ within in (at_tree P tables all o.tree parts.0, covered P tables others all parts.1)

-- the same of those that are not left out
pub covered_but : (out : ℕ → Bool) (P : ℕ → Type 0) (tables others : List Table) → AllByRecursion (λ x. P x.tree) tables → list_all (λ o. out o.tree || has_tree tables o.tree) others ≡ true → AllByRecursion (λ x. out x.tree ≡ false → P x.tree) others
covered_but out P tables [] all within = tt
covered_but out P tables (o ∷ others) all within =
    let parts = and_parts _ _ within in
    ((λ stays. elim (or_cases _ _ parts.0) [ inl leaves ↦ absurd (both_ways (out o.tree) stays leaves) | inr here ↦ at_tree P tables all o.tree here ]), covered_but out P tables others all parts.1)

-- What holds of the rows of tables that keep them, and of those of the tables that are left out, holds of those of all tables.
pub all_after : (out : ℕ → Bool) (P : List Row → Type 0) (old new : Trees) (tables : List Table) → ((t : ℕ) → out t ≡ true → P (new t)) → AllByRecursion (λ t. out t.tree ≡ false → new t.tree ≡ old t.tree) tables
    → AllByRecursion (λ t. out t.tree ≡ false → P (old t.tree)) tables → AllByRecursion (λ t. P (new t.tree)) tables
all_after out P old new tables it same was = all_both tables (λ t stays had. elim (cases_Bool (out t.tree)) [ inl leaves ↦ it t.tree leaves | inr keeps ↦ subst P (sym (stays keeps)) (had keeps) ]) same was
