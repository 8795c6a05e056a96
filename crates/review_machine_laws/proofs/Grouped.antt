-- Who is in the groups of a history.
use Rattle.std.proofs.Common.{◌≡◌, ℕ, List, [], ◌∷◌, Option, Some, None, Bool, true, false, cond, ◌||◌, ◌==◌, refl, sym, ap, ◌∙◌, ⊎_elim, unwrap_or}
use Rattle.std.specs.BTreeMap.{insert_entry, is_at}
use Rattle.std.specs.{Map.lookup, Ordering.is_eq, Ordering.match_ordering, Ordering.nat_cmp, Str.bytes_eq}
use Rattle.review_names.specs.Groups.{GroupList, has_account, members_in}
use Rattle.review_words.specs.History.{Entry, accepted, is_listed, listed_members, put}
use Rattle.review_machine_rows.proofs.Common.{Command, Equal, Greater, Less, Ordering, PutGroup, administrators, bytes_eq-Decides, cases_Bool, is_eq-slice_cmp, list_any, registered_users, slice_cmp}
use Rattle.review_machine_rows.specs.Changes.{group_put, groups_of}

abbrev by_name : List ℕ → List ℕ → Ordering
by_name = slice_cmp nat_cmp

flipped : (a b : List ℕ) → bytes_eq a b ≡ bytes_eq b a
flipped a b = ⊎_elim
    (λ (t : bytes_eq a b ≡ true). t ∙ sym ((bytes_eq-Decides b a).1 (sym ((bytes_eq-Decides a b).0 t))))
    (λ (f : bytes_eq a b ≡ false). f ∙ sym (not_either f))
    (cases_Bool (bytes_eq a b))
  where
    not_either : bytes_eq a b ≡ false → bytes_eq b a ≡ false
    not_either f = ⊎_elim
        (λ (t : bytes_eq b a ≡ true). let bad : false ≡ true = sym f ∙ (bytes_eq-Decides a b).1 (sym ((bytes_eq-Decides b a).0 t)) in absurd (cc))
        (λ (g : bytes_eq b a ≡ false). g)
        (cases_Bool (bytes_eq b a))

-- whether a name is looked for
at_name : (q k : List ℕ) → is_at (by_name q) k ≡ bytes_eq k q
at_name q k = is_eq-slice_cmp q k ∙ flipped q k

-- what is found of a name once one is put
pub put_lookup : (es : GroupList) (k : List ℕ) (v : List ℕ) (q : List ℕ) →
    lookup (is_at (by_name q)) (insert_entry by_name es k v) ≡ cond (bytes_eq k q) (Some v) (lookup (is_at (by_name q)) es)
put_lookup [] k v q = ap (λ b. cond b (Some v) None) (at_name q k)
put_lookup (e ∷ es) k v q = go (put_lookup es k v q) (by_name k e.0) refl
  where
    here : (o : Ordering) → by_name k e.0 ≡ o → is_eq o ≡ bytes_eq k e.0
    here o is = ap is_eq (sym is) ∙ is_eq-slice_cmp k e.0

    go : lookup (is_at (by_name q)) (insert_entry by_name es k v) ≡ cond (bytes_eq k q) (Some v) (lookup (is_at (by_name q)) es) → (o : Ordering) → by_name k e.0 ≡ o →
        lookup (is_at (by_name q)) (match_ordering o ((k, v) ∷ e ∷ es) ((e.0, v) ∷ es) (e ∷ insert_entry by_name es k v)) ≡ cond (bytes_eq k q) (Some v) (lookup (is_at (by_name q)) (e ∷ es))
    go below Less is = ap (λ b. cond b (Some v) (lookup (is_at (by_name q)) (e ∷ es))) (at_name q k)
    go below Equal is =
        let same : k ≡ e.0 = (bytes_eq-Decides k e.0).0 (sym (here Equal is)) in
        ap (λ b. cond b (Some v) (lookup (is_at (by_name q)) es)) (at_name q e.0 ∙ ap (λ x. bytes_eq x q) (sym same))
        ∙ (drop (bytes_eq k q) ∙ ap (λ b. cond (bytes_eq k q) (Some v) (cond b (Some e.1) (lookup (is_at (by_name q)) es))) (ap (λ x. bytes_eq x q) same ∙ sym (at_name q e.0)))
      where
        drop : (b : Bool) → cond b (Some v) (lookup (is_at (by_name q)) es) ≡ cond b (Some v) (cond b (Some e.1) (lookup (is_at (by_name q)) es))
        drop true = refl
        drop false = refl
    go below Greater is =
        ap (λ o. cond (is_at (by_name q) e.0) (Some e.1) o) below
        ∙ swap (is_at (by_name q) e.0) (bytes_eq k q) (λ (t : is_at (by_name q) e.0 ≡ true). apart t)
      where
        apart : is_at (by_name q) e.0 ≡ true → bytes_eq k q ≡ false
        apart t = ⊎_elim
            (λ (u : bytes_eq k q ≡ true).
            let one : e.0 ≡ q = (bytes_eq-Decides e.0 q).0 (sym (at_name q e.0) ∙ t) in
            let two : k ≡ q = (bytes_eq-Decides k q).0 u in
            let bad : false ≡ true = here Greater is ∙ (bytes_eq-Decides k e.0).1 (two ∙ sym one) in absurd (cc))
            (λ (f : bytes_eq k q ≡ false). f)
            (cases_Bool (bytes_eq k q))

        swap : (a b : Bool) → (a ≡ true → b ≡ false) → cond a (Some e.1) (cond b (Some v) (lookup (is_at (by_name q)) es)) ≡ cond b (Some v) (cond a (Some e.1) (lookup (is_at (by_name q)) es))
        swap true true none = let bad = none refl in absurd (cc)
        swap true false none = refl
        swap false b none = refl

put_members : (b : Bool) (members : List ℕ) (before : Option (List ℕ)) → unwrap_or (cond b (Some members) before) [] ≡ cond b members (unwrap_or before [])
put_members true members before = refl
put_members false members before = refl

members_step : (o : Option Command) (groups : GroupList) (name before : List ℕ) → members_in groups name ≡ before → members_in (group_put o groups) name ≡ put o name before
members_step (Some (PutGroup group members)) groups name before e =
    ap (λ o. unwrap_or o []) (put_lookup groups group members name)
    ∙ (put_members (bytes_eq group name) members (lookup (is_at (by_name name)) groups) ∙ ap (λ l. cond (bytes_eq group name) members l) e)
members_step _ groups name before e = e

first_members : (b : Bool) (members : List ℕ) → unwrap_or (cond b (Some members) None) [] ≡ cond b members []
first_members true members = refl
first_members false members = refl

-- the members of a group
members_are : (h : List Entry) (group : List ℕ) → members_in (groups_of h) group ≡ listed_members h group
members_are [] group = ap (λ b. unwrap_or {T = List ℕ} (cond b (Some (1 ∷ [])) None) []) (at_name group administrators) ∙ first_members (bytes_eq administrators group) (1 ∷ [])
members_are (e ∷ h) group = members_step (accepted e) (groups_of h) group (listed_members h group) (members_are h group)

-- who is in a group
pub in_group : (h : List Entry) (group : List ℕ) (account : ℕ) → has_account (groups_of h) group account ≡ (bytes_eq group registered_users || is_listed h group account)
in_group h group account = ap (λ l. bytes_eq group registered_users || list_any (λ m. m == account) l) (members_are h group)
