-- What changes leave at each key.
use Rattle.review_sql_tables.proofs.Common.{◌≡◌, ◌≢◌, ◌∙◌, List, [], ◌∷◌, true, Ordering, Some, option_map, sym, ap, subst, inl, inr, cases_Bool, both_ways, is_at, Trees, row_edit_of, after_row_edit, RowEdit, SparesOthers, IsExact, SetsParts, Search, row_at, SetsRows}
use Rattle.review_sql_tables.proofs.Keys.{spares_then}

module _ {A X : Type 0} (s : Search A X) where
  module _ (cmp : A → A → Ordering) (exact : IsExact cmp) where
    pub rows_changed : (cs : List (RowEdit A X)) (old new : Trees) → SetsRows s cs old new → (a : A) → row_at s new a ≡ after_row_edit (option_map (option_map Some) (row_edit_of cmp cs a)) (row_at s old a)
    rows_changed [] old new h a = ap (λ (t : Trees). row_at s t a) h
    rows_changed (c ∷ cs) old new h a = elim (cases_Bool (is_at (cmp c.key) a)) [
      | inl is ↦ rw is (subst (λ k. row_at s new k ≡ option_map Some c.row) (exact.same c.key a is) h.2.here)
      | inr apart ↦ rw apart (h.2.there a (λ same. both_ways _ apart (subst (λ k. is_at (cmp c.key) k ≡ true) (sym same) (exact.itself c.key))) ∙ rows_changed cs old h.0 h.1 a)
    ]

  pub rows_spare : (cs : List (RowEdit A X)) (old new : Trees) → SetsRows s cs old new → SparesOthers s.tree old new
  rows_spare [] old new h = λ t is other. ap (λ (d : Trees). d t) h
  rows_spare (c ∷ cs) old new h = spares_then s.tree old h.0 new (rows_spare cs old h.0 h.1) h.2.others

-- ---- the rows of an owner

module _ {O K X : Type 0} (s : Search (O × K) X) (o : O) where
  module _ (cmp : K → K → Ordering) (exact : IsExact cmp) where
    pub parts_changed : (cs : List (RowEdit K X)) (old new : Trees) → SetsParts s o cs old new → (k : K) → row_at s new (o, k) ≡ after_row_edit (option_map (option_map Some) (row_edit_of cmp cs k)) (row_at s old (o, k))
    parts_changed [] old new h k = ap (λ (t : Trees). row_at s t (o, k)) h
    parts_changed (c ∷ cs) old new h k = elim (cases_Bool (is_at (cmp c.key) k)) [
      | inl is ↦ rw is (subst (λ j. row_at s new (o, j) ≡ option_map Some c.row) (exact.same c.key k is) h.2.here)
      | inr apart ↦ rw apart (h.2.there (o, k) (λ same. both_ways _ apart (subst (λ (j : O × K). is_at (cmp c.key) j.1 ≡ true) (sym same) (exact.itself c.key))) ∙ parts_changed cs old h.0 h.1 k)
    ]

  pub parts_apart : (cs : List (RowEdit K X)) (old new : Trees) → SetsParts s o cs old new → (p : O) (k : K) → p ≢ o → row_at s new (p, k) ≡ row_at s old (p, k)
  parts_apart [] old new h p k other = ap (λ (t : Trees). row_at s t (p, k)) h
  parts_apart (c ∷ cs) old new h p k other = h.2.there (p, k) (λ same. other (ap (λ (j : O × K). j.0) same)) ∙ parts_apart cs old h.0 h.1 p k other

  pub parts_spare : (cs : List (RowEdit K X)) (old new : Trees) → SetsParts s o cs old new → SparesOthers s.tree old new
  parts_spare [] old new h = λ t is other. ap (λ (d : Trees). d t) h
  parts_spare (c ∷ cs) old new h = spares_then s.tree old h.0 new (parts_spare cs old h.0 h.1) h.2.others
