-- Rows by account, and who is in a group.
use Rattle.std.proofs.Common.{◌≡◌, ℕ, List, [], ◌∷◌, map, Option, Some, None, Bool, true, false, not, ◌&&◌, ◌||◌, refl, sym, ap, ◌∙◌, eqb-true, eq-eqb, arith, filter, nat_cmp, ◌==◌, if◌then◌else◌, is_some, unwrap_or, option_map, bytes_eq}
use Rattle.std.{proofs.lemmas.Bool.Decides.nat_tests, proofs.lemmas.Map.Made.lookup-map_values, specs.BTreeMap.is_at}
use Rattle.std.specs.{Cmp.unsigned_tied, Cmp.Lexicographic.slice_cmp, List.list_any, Map.keys_of, Option.option_map_or}
use Rattle.review_names.specs.{Groups.has_account, Names.registered_users}
use Rattle.review_table.{proofs.Plain.some_or, specs.Rows.row_in, specs.Rows.rows_of}
use Rattle.review_core_rules.specs.{Change.kept_or, declared.rows.AttentionEntry.AttentionEntry, declared.rows.Why.Why}
use Rattle.review_core_tables.proofs.Copied.{Tells, at_sym, any_kept}
use Rattle.review_core_tables.specs.Copies.{GroupTable, group_list}

-- ==== rows by account, and who is called

pub accounts_tell : Tells nat_cmp
accounts_tell = record {
  same = λ j k e. eqb-true j k (sym (unsigned_tied j k) ∙ e);
  self = λ k. unsigned_tied k k ∙ eq-eqb k k refl;
}

-- who has a row
pub has_row : {X : Type 0} (rows : List (ℕ × X)) (u : ℕ) → list_any (λ x. x == u) (map (λ e. e.0) rows) ≡ is_some (row_in nat_cmp rows u)
has_row [] u = refl
has_row (e ∷ rows) u =
    (λ i. (sym (unsigned_tied e.0 u) ∙ at_sym accounts_tell e.0 u) i || has_row rows u i)
    ∙ sym (some_or (is_at (nat_cmp u) e.0) e.1 (row_in nat_cmp rows u))

-- the accounts that have a row are those of some accounts that pass, where who has one is among these
pub has_role : (p : ℕ → Bool) (u : ℕ) (xs : List ℕ) → (p u ≡ true → list_any (is_at (nat_cmp u)) xs ≡ true) → list_any (λ x. x == u) (filter p xs) ≡ p u
has_role p u xs all = sym (any_same (filter p xs)) ∙ (any_kept accounts_tell p u xs ∙ both (p u) (list_any (is_at (nat_cmp u)) xs) all)
  where
    any_same : (ys : List ℕ) → list_any (is_at (nat_cmp u)) ys ≡ list_any (λ x. x == u) ys
    any_same [] = refl
    any_same (y ∷ ys) = λ i. (at_sym accounts_tell u y ∙ unsigned_tied y u) i || any_same ys i

    both : (b any : Bool) → (b ≡ true → any ≡ true) → (b && any) ≡ b
    both true any all = all refl
    both false any all = refl

-- all but the caller
pub any_but : (caller u : ℕ) (xs : List ℕ) → list_any (λ x. x == u) (filter (λ x. not (x == caller)) xs) ≡ (list_any (λ x. x == u) xs && not (caller == u))
any_but caller u [] = refl
any_but caller u (x ∷ xs) = grind (arith, nat_tests, any_but caller u xs)

pub kept_none : (o : Option AttentionEntry) (n : ℕ) → kept_or o None n ≡ o
kept_none None n = refl
kept_none (Some c) n = refl

-- calling some accounts, where who is among them is known
pub kept_where : (b : Bool) (o : Option AttentionEntry) (why : Option Why) (n : ℕ) → (if b then kept_or o why n else o) ≡ kept_or o (if b then why else None) n
kept_where true o why n = refl
kept_where false o why n = sym (kept_none o n)

pub kept_nothing : (b : Bool) (o : Option AttentionEntry) (n : ℕ) → o ≡ kept_or o (if b then None else None) n
kept_nothing true o n = sym (kept_none o n)
kept_nothing false o n = sym (kept_none o n)

-- ==== who is in the groups of a table

-- whether an account has a row in the table of a group's members, where there is one
abbrev pub is_listed : Option (List (ℕ × Option (Unit {0}))) → ℕ → Bool
is_listed members account = option_map_or (λ t. is_some (row_in nat_cmp (rows_of t) account)) members false

among : (members : Option (List (ℕ × Option (Unit {0})))) (account : ℕ) →
    list_any (λ m. m == account) (unwrap_or (option_map (λ t. keys_of (rows_of t)) members) []) ≡ is_listed members account
among None account = refl
among (Some t) account = has_row (rows_of t) account

-- who is in a group of a table
pub in_table : (t : GroupTable) (group : List ℕ) (account : ℕ) →
    has_account (group_list t) group account ≡ (bytes_eq group registered_users || is_listed (row_in (slice_cmp nat_cmp) (rows_of t) group) account)
in_table t group account =
    ap (λ o. bytes_eq group registered_users || list_any (λ m. m == account) (unwrap_or o [])) (lookup-map_values (λ m. keys_of (rows_of m)) (is_at (slice_cmp nat_cmp group)) (rows_of t))
    ∙ ap (λ b. bytes_eq group registered_users || b) (among (row_in (slice_cmp nat_cmp) (rows_of t) group) account)

-- who is in a group that isn't everyone's
pub told_in : (t : GroupTable) (group : List ℕ) (account : ℕ) (members : Option (List (ℕ × Option (Unit {0})))) (is : Bool) → bytes_eq group registered_users ≡ false →
    row_in (slice_cmp nat_cmp) (rows_of t) group ≡ members → is ≡ is_listed members account → is ≡ has_account (group_list t) group account
told_in t group account members is other found listed =
    listed ∙ (ap (λ o. is_listed o account) (sym found)
    ∙ (ap (λ b. b || is_listed (row_in (slice_cmp nat_cmp) (rows_of t) group) account) (sym other) ∙ sym (in_table t group account)))
