-- What shows that tables are those of no history: rows without a key, and rows that don't read.
use Rattle.std.proofs.lemmas.Bool.{or_right}
use Rattle.review_names.specs.{Forms.is_label, Forms.most_comments, Names.is_account_number}
use Rattle.review_sql_tables.proofs.Common.{◌≡◌, ◌∙◌, ◌⊎◌, ◌&&◌, ℕ, List, [], ◌∷◌, Option, Some, None, Bool, true, false, not, is_some, refl, sym, ap, subst, inl, inr, Ordering, nat_le, arith, leb-true, leb-false, option_map, zero, suc, cases_Bool, and_from, and_parts, or_cases, lt-ltb, list_any, nat_cmp, is_eq, Has, Trees, Raw, column, value_cmp, Text, number_in, has_key, AreParts, HasGreatest, HasOne, Search, only, reads, row_at, rows_at}
use Rattle.review_core_rules.specs.Parts.{PatchOf, VoteOf, RoleOf, CommentOf, AttentionOf, APatch, ARole, AComment, AnAttentionEntry}
use Rattle.review_core_rules.specs.Seen.{vote_cmp}
use Rattle.review_sql_records.proofs.Common.{is_commit, is_within, most_changes, most_patches, is_word, history_bases, same_text, reading_of, at_place, MemberKey, AccountKey, BaseKey, PartKey, OddKey, AccountRow, MemberRow, BaseRow, APart, IsDamaged, Base, BranchKey, PlaceKey, where_is, both, account_names, account_numbers, base_commits, base_places, branch_bases, base_parts, group_members, member_parts, is_small, at_number, passed}
use Rattle.review_sql_records.specs.Forms.{alone, accounts, bases, desk, epochs, account_keyed, member_keyed, base_keyed, is_number, is_text}
use Rattle.review_sql_records.specs.declared.rows.DeskRow.{DeskRow}
use Rattle.review_sql_change_records.specs.Forms.{patches, votes, roles, comments, attention_entries, change_patches, change_votes, change_roles, change_comments, change_attention, vote_key, change_numbers, header_keyed, has_change, patch_keyed, vote_keyed, comment_keyed, account_keyed as of_account}
use Rattle.review_sql_change_records.specs.Laws.{at_text}
use Rattle.review_sql_lookups.proofs.Telling.{has_in, in_has, odd_damage}
use Rattle.review_sql_lookups.specs.Loads.{last_of}
use Rattle.review_sql_lookups.specs.Tables.{keyed_tables, has_unkeyed, number_of, tables_at, version_in, told, vote_told}

-- ---- lists of rows

any_in : {X : Type 0} (p : X → Bool) (xs : List X) (x : X) → Has xs x → p x ≡ true → list_any p xs ≡ true
any_in p [] x has is = absurd has
any_in p (y ∷ xs) x (inl same) is = let it : p y ≡ true = subst (λ z. p z ≡ true) same is in rw it refl
any_in p (y ∷ xs) x (inr has) is = or_right (p y) (list_any p xs) (any_in p xs x has is)

pub any_has : {X : Type 0} (p : X → Bool) (xs : List X) → list_any p xs ≡ true → (x : X) × Has xs x × (p x ≡ true)
any_has p [] is = absurd (cc)
any_has p (x ∷ xs) is = elim (or_cases _ _ is) [
  | inl here ↦ (x, inl refl, here)
  | inr later ↦ let it = any_has p xs later in (it.0, inr it.1, it.2)
]

-- a row that doesn't read is odd at its key
only_odd : {X : Type 0} (read : Raw → Option X) (rows : List Raw) (r : Raw) → Has rows r → read r ≡ None → only read rows ≡ Some None
only_odd read [] r has is = absurd has
only_odd read (s ∷ []) r (inl same) is = ap (λ x. Some x) (ap read (sym same) ∙ is)
only_odd read (s ∷ []) r (inr has) is = absurd has
only_odd read (s ∷ t ∷ rows) r has is = refl

pub odd_at : {A X : Type 0} (s : Search A X) (db : Trees) (a : A) (r : Raw) → Has (db s.tree) r → has_key (s.at a) r ≡ true → reads s r ≡ None → row_at s db a ≡ Some None
odd_at s db a r has at is = only_odd (reads s) (rows_at (s.at a) (db s.tree)) r (in_has (has_key (s.at a)) (db s.tree) r has at) is

-- tables with a row that has no key are those of no history
pub unkeyed : (db : Trees) (tree : ℕ) (keyed : Raw → Bool) → Has keyed_tables (tree, keyed) → (r : Raw) → Has (db tree) r → keyed r ≡ false → IsDamaged (tables_at db)
unkeyed db tree keyed listed r has bad =
    let odd : has_unkeyed keyed_tables db ≡ true = any_in (λ t. list_any (λ r. not (t.1 r)) (db t.0)) keyed_tables (tree, keyed) listed (any_in (λ r. not (keyed r)) (db tree) r has (ap not bad)) in
    odd_damage (tables_at db) (OddKey []) (rw odd refl)

-- ---- values

pub no_number : (test : ℕ → Bool) (o : Option ℕ) → where_is test o ≡ None → is_some (where_is test o) ≡ false
no_number test o is = ap is_some is

-- a number that reads, but isn't one of a kind
pub no_such : (test : ℕ → Bool) (o : Option ℕ) (n : ℕ) → o ≡ Some n → test n ≡ false → is_some (where_is test o) ≡ false
no_such test o n is bad = rw (is, bad) refl

pub unread : (test : ℕ → Bool) (o : Option ℕ) → o ≡ None → is_some (where_is test o) ≡ false
unread test o is = rw is refl

pub and_false : (a b : Bool) → b ≡ false → (a && b) ≡ false
and_false true b is = is
and_false false b is = refl

-- which of two things is missing
pub both_missing : {X Y : Type 0} (a : Option X) (b : Option Y) → both a b ≡ None → (a ≡ None) ⊎ ((x : X) × (a ≡ Some x) × (b ≡ None))
both_missing None b is = inl refl
both_missing (Some x) None is = inr (x, refl, refl)
both_missing (Some x) (Some y) is = absurd (cc)

alone_missing : (o : Option ℕ) → alone o ≡ None → o ≡ None
alone_missing None is = refl
alone_missing (Some n) is = absurd (cc)

-- ---- the rows of an owner

-- rows of which one doesn't read, or two have one key
module _ {O K X : Type 0} (cmp : K → K → Ordering) (front : Search O (K × X)) (whole : Search (O × K) X) (o : O) (db : Trees) where
  pub parts_damaged : ((r : Raw) → Has (db front.tree) r → has_key (front.at o) r ≡ true → reads front r ≡ None → IsDamaged (tables_at db))
      → ((k : K) → row_at whole db (o, k) ≡ Some None → IsDamaged (tables_at db)) → AreParts cmp front whole o db None → IsDamaged (tables_at db)
  parts_damaged unread twin (inl odd) = let it = any_has _ _ odd in let row = has_in (has_key (front.at o)) (db front.tree) it.0 it.1 in unread it.0 row.0 row.1 (unsome _ it.2)
    where
      unsome : {Y : Type 0} (y : Option Y) → not (is_some y) ≡ true → y ≡ None
      unsome None is = refl
      unsome (Some y) is = absurd (cc)
  parts_damaged unread twin (inr both) = twin both.0 both.1

pub members_damaged : (db : Trees) (group : List ℕ) → AreParts nat_cmp group_members member_parts group db None → IsDamaged (tables_at db)
members_damaged db group none =
    parts_damaged nat_cmp group_members member_parts group db
    (λ r has at is. unkeyed db 2 member_keyed (inr (inl refl)) r has (and_false (is_text (column r 1)) _ (no_number is_account_number (number_in (column r 2)) (alone_missing _ is))))
    (λ k twin. odd_damage (tables_at db) (MemberKey group k) (ap (told (λ u. MemberRow)) twin)) none

positive : (n : ℕ) → where_is (nat_le 1) (Some (suc n)) ≡ None → ⊥
positive n is = elim (cases_Bool (nat_le 1 (suc n))) [ inl low ↦ (let e = rw low at is in cc) | inr high ↦ (let e = leb-false 1 (suc n) high in omega (arith, e)) ]

-- no base stands before the first place
before_first : (db : Trees) (key : BranchKey) (r : Raw) → Has (rows_at (bases.at (record { project = key.project; branch = key.branch; place = 0 })) (db 6)) r → IsDamaged (tables_at db)
before_first db key r has h history view =
    let read = reading_of h history in
    some_base (rows_at (bases.at (record { project = key.project; branch = key.branch; place = 0 })) (db 6)) r has
    ((view read.0 read.1).row_is (BaseKey key.project key.branch 0) ∙ ap (option_map BaseRow) (none_before (history_bases h key.project key.branch)))
  where
    none_before : (xs : List (List ℕ)) → at_place xs 0 ≡ None
    none_before [] = refl
    none_before (x ∷ xs) = refl

    some_base : (rows : List Raw) (r : Raw) → Has rows r → told BaseRow (only (reads bases) rows) ≡ None → ⊥
    some_base [] r has none = has
    some_base (s ∷ []) r has none = by (reads bases s) none
      where
        by : (o : Option (List ℕ)) → told BaseRow (Some o) ≡ None → ⊥
        by None e = cc
        by (Some x) e = cc
    some_base (s ∷ t ∷ rows) r has none = cc

pub bases_odd : (db : Trees) (key : BranchKey) → AreParts nat_cmp branch_bases base_parts key db None → IsDamaged (tables_at db)
bases_odd db key none =
    parts_damaged nat_cmp branch_bases base_parts key db
    (λ r has at is. elim (both_missing _ _ is) [
      | inl place ↦ no_place r has at (number_in (column r 3)) refl place
      | inr commit ↦
          let p = and_parts _ _ at in
          let here = and_from _ _ p.0 (and_from _ _ (and_parts _ _ p.1).0 (and_from _ _ (at_number (column r 3) commit.0 (passed (nat_le 1) _ commit.0 commit.1)) refl)) in
          odd_damage (tables_at db) (BaseKey key.project key.branch commit.0) (ap (told BaseRow) (odd_at base_parts db (key, commit.0) r has here commit.2))
    ])
    (λ k twin. odd_damage (tables_at db) (BaseKey key.project key.branch k) (ap (told BaseRow) twin)) none
  where
    no_place : (r : Raw) → Has (db 6) r → has_key (branch_bases.at key) r ≡ true → (o : Option ℕ) → number_in (column r 3) ≡ o → where_is (nat_le 1) (number_in (column r 3)) ≡ None → IsDamaged (tables_at db)
    no_place r has at None is none = unkeyed db 6 base_keyed (inr (inr (inr (inl refl)))) r has (and_false (is_text (column r 1)) _ (and_false (is_text (column r 2)) _ (unread is_small (number_in (column r 3)) is)))
    no_place r has at (Some zero) is none =
        let p = and_parts _ _ at in
        let here = and_from _ _ p.0 (and_from _ _ (and_parts _ _ p.1).0 (and_from _ _ (at_number (column r 3) 0 is) refl)) in
        before_first db key r (in_has (has_key (bases.at (record { project = key.project; branch = key.branch; place = 0 }))) (db 6) r has here)
    no_place r has at (Some (suc n)) is none = absurd (let e = sym (ap (where_is (nat_le 1)) is) ∙ none in positive n e)

module _ (db : Trees) (n : ℕ) where
  pub patches_damaged : AreParts nat_cmp change_patches patches n db None → IsDamaged (tables_at db)
  patches_damaged none =
      parts_damaged nat_cmp change_patches patches n db
      (λ r has at is. elim (both_missing _ _ is) [
        | inl number ↦ unkeyed db 11 patch_keyed (inr (inr (inr (inr (inr (inr (inl refl))))))) r has (and_false (has_change r) _ (no_number (is_within most_patches) (number_in (column r 2)) number))
        | inr row ↦
            let here = and_from _ _ (and_parts _ _ at).0 (and_from _ _ (at_number (column r 2) row.0 (passed (is_within most_patches) _ row.0 row.1)) refl) in
            odd_damage (tables_at db) (PartKey n (PatchOf row.0)) (ap (told (λ x. APart (APatch x))) (odd_at patches db (n, row.0) r has here row.2))
      ])
      (λ k twin. odd_damage (tables_at db) (PartKey n (PatchOf k)) (ap (told (λ x. APart (APatch x))) twin)) none

  pub roles_damaged : AreParts nat_cmp change_roles roles n db None → IsDamaged (tables_at db)
  roles_damaged none =
      parts_damaged nat_cmp change_roles roles n db
      (λ r has at is. elim (both_missing _ _ is) [
        | inl number ↦ unkeyed db 16 of_account (inr (inr (inr (inr (inr (inr (inr (inr (inl refl))))))))) r has (and_false (has_change r) _ (no_number is_account_number (number_in (column r 2)) number))
        | inr row ↦
            let here = and_from _ _ (and_parts _ _ at).0 (and_from _ _ (at_number (column r 2) row.0 (passed is_account_number _ row.0 row.1)) refl) in
            odd_damage (tables_at db) (PartKey n (RoleOf row.0)) (ap (told (λ x. APart (ARole x))) (odd_at roles db (n, row.0) r has here row.2))
      ])
      (λ k twin. odd_damage (tables_at db) (PartKey n (RoleOf k)) (ap (told (λ x. APart (ARole x))) twin)) none

  pub comments_damaged : AreParts nat_cmp change_comments comments n db None → IsDamaged (tables_at db)
  comments_damaged none =
      parts_damaged nat_cmp change_comments comments n db
      (λ r has at is. elim (both_missing _ _ is) [
        | inl number ↦ unkeyed db 18 comment_keyed (inr (inr (inr (inr (inr (inr (inr (inr (inr (inl refl)))))))))) r has (and_false (has_change r) _ (no_number (is_within most_comments) (number_in (column r 2)) number))
        | inr row ↦
            let here = and_from _ _ (and_parts _ _ at).0 (and_from _ _ (at_number (column r 2) row.0 (passed (is_within most_comments) _ row.0 row.1)) refl) in
            odd_damage (tables_at db) (PartKey n (CommentOf row.0)) (ap (told (λ x. APart (AComment x))) (odd_at comments db (n, row.0) r has here row.2))
      ])
      (λ k twin. odd_damage (tables_at db) (PartKey n (CommentOf k)) (ap (told (λ x. APart (AComment x))) twin)) none

  pub attention_damaged : AreParts nat_cmp change_attention attention_entries n db None → IsDamaged (tables_at db)
  attention_damaged none =
      parts_damaged nat_cmp change_attention attention_entries n db
      (λ r has at is. elim (both_missing _ _ is) [
        | inl number ↦ unkeyed db 20 of_account (inr (inr (inr (inr (inr (inr (inr (inr (inr (inr (inl refl))))))))))) r has (and_false (has_change r) _ (no_number is_account_number (number_in (column r 2)) number))
        | inr row ↦
            let here = and_from _ _ (and_parts _ _ at).0 (and_from _ _ (at_number (column r 2) row.0 (passed is_account_number _ row.0 row.1)) refl) in
            odd_damage (tables_at db) (PartKey n (AttentionOf row.0)) (ap (told (λ x. APart (AnAttentionEntry x))) (odd_at attention_entries db (n, row.0) r has here row.2))
      ])
      (λ k twin. odd_damage (tables_at db) (PartKey n (AttentionOf k)) (ap (told (λ x. APart (AnAttentionEntry x))) twin)) none

  -- what is missing of the key of a vote
  key_missing : (a : Option ℕ) (b : Option (List ℕ)) (d : Option ℕ) (h : Bool) → vote_key a b d ≡ None → (h && (is_some a && (is_some b && is_some d))) ≡ false
  key_missing None b d h is = and_false h _ refl
  key_missing (Some a) None d h is = and_false h _ refl
  key_missing (Some a) (Some b) None h is = and_false h _ refl
  key_missing (Some a) (Some b) (Some d) h is = absurd (cc)

  pub votes_damaged : AreParts vote_cmp change_votes votes n db None → IsDamaged (tables_at db)
  votes_damaged none =
      parts_damaged vote_cmp change_votes votes n db
      (λ r has at is. elim (both_missing _ _ is) [
        | inl key ↦ unkeyed db 14 vote_keyed (inr (inr (inr (inr (inr (inr (inr (inl refl)))))))) r has (key_missing _ _ _ (has_change r) key)
        | inr row ↦
            let k = row.0 in
            let it = Rattle.review_sql_change_records.specs.Laws.vote_keys _ _ _ k row.1 in
            let here = and_from _ _ (and_parts _ _ at).0 (and_from _ _ (at_number (column r 2) k.patch (passed (is_within most_patches) _ k.patch it.0))
            (and_from _ _ (at_text (column r 3) k.label (passed is_label _ k.label it.1)) (and_from _ _ (at_number (column r 4) k.account (passed is_account_number _ k.account it.2)) refl))) in
            odd_damage (tables_at db) (PartKey n (VoteOf k.patch k.label k.account)) (ap vote_told (odd_at votes db (n, k) r has here row.2))
      ])
      (λ k twin. odd_damage (tables_at db) (PartKey n (VoteOf k.patch k.label k.account)) (ap vote_told twin)) none

-- ---- greatest numbers

-- a greatest number that is too large, or none
pub last_damaged : (test : ℕ → Bool) (keyed : Raw → Bool) (tree : ℕ) (db : Trees) (found : Option (Option ℕ)) → Has keyed_tables (tree, keyed)
    → ((r : Raw) → keyed r ≡ is_number test (column r 0)) → ((n : ℕ) → test n ≡ true → is_small n ≡ true)
    → HasGreatest (record { tree = tree; keyed = keyed; at = λ (u : Unit {0}). []; columns = 0 ∷ []; read = λ r. number_in (column r 0) }) 0 tt db found
    → where_is is_small (last_of found) ≡ None → IsDamaged (tables_at db)
last_damaged test keyed tree db None listed is_keyed small great is = absurd (cc)
last_damaged test keyed tree db (Some None) listed is_keyed small great is =
    let r = great.0 in
    unkeyed db tree keyed listed r (has_in (has_key []) (db tree) r great.1.among).0 (is_keyed r ∙ unread test (number_in (column r 0)) (sym great.2))
last_damaged test keyed tree db (Some (Some n)) listed is_keyed small great is =
    let r = great.0 in
    unkeyed db tree keyed listed r (has_in (has_key []) (db tree) r great.1.among).0 (is_keyed r ∙ elim (cases_Bool (test n)) [
      | inl fits ↦ absurd (let e = small n fits in (let f = rw e at is in cc))
      | inr other ↦ no_such test (number_in (column r 0)) n (sym great.2) other
    ])

account_small : (n : ℕ) → is_account_number n ≡ true → is_small n ≡ true
unfolding is_account_number
account_small n is = let le = (and_parts _ _ is).1 in lt-ltb n 4294967296 (let low = leb-true n 1000000 le in omega (arith, low))

change_small : (n : ℕ) → is_within most_changes n ≡ true → is_small n ≡ true
unfolding is_within
change_small n is = let le = (and_parts _ _ is).1 in lt-ltb n 4294967296 (let low = leb-true n most_changes le in omega (arith, low))

pub last_account_damaged : (db : Trees) (found : Option (Option ℕ)) → HasGreatest account_numbers 0 tt db found → where_is is_small (last_of found) ≡ None → IsDamaged (tables_at db)
last_account_damaged db found great is = last_damaged is_account_number account_keyed 0 db found (inl refl) (λ r. refl) account_small great is

pub last_change_damaged : (db : Trees) (found : Option (Option ℕ)) → HasGreatest change_numbers 0 tt db found → where_is is_small (last_of found) ≡ None → IsDamaged (tables_at db)
last_change_damaged db found great is = last_damaged (is_within most_changes) header_keyed 9 db found (inr (inr (inr (inr (inr (inl refl)))))) (λ r. refl) change_small great is

pub last_place_damaged : (db : Trees) (key : BranchKey) (found : Option (Option ℕ)) → HasGreatest base_places 3 key db found → where_is is_small (last_of found) ≡ None → IsDamaged (tables_at db)
last_place_damaged db key None great is = absurd (cc)
last_place_damaged db key (Some found) great is = by found great.2 is
  where
    r : Raw
    r = great.0

    unplaced : is_number is_small (column r 3) ≡ false → IsDamaged (tables_at db)
    unplaced none = unkeyed db 6 base_keyed (inr (inr (inr (inl refl)))) r (has_in (has_key (base_places.at key)) (db 6) r great.1.among).0 (and_false (is_text (column r 1)) _ (and_false (is_text (column r 2)) _ none))

    by : (found : Option ℕ) → found ≡ number_in (column r 3) → where_is is_small (last_of (Some found)) ≡ None → IsDamaged (tables_at db)
    by None at is = unplaced (unread is_small (number_in (column r 3)) (sym at))
    by (Some n) at is = elim (cases_Bool (is_small n)) [
      | inl fits ↦ absurd (let e = rw fits at is in cc)
      | inr other ↦ unplaced (no_such is_small (number_in (column r 3)) n (sym at) other)
    ]

-- ---- look-ups by a name and by a commit

-- the row that has a key is what the key has, unless the key is odd
pub only_with : {X : Type 0} (read : Raw → Option X) (rows : List Raw) (r : Raw) → Has rows r → (only read rows ≡ Some None) ⊎ (only read rows ≡ Some (read r))
only_with read [] r has = absurd has
only_with read (s ∷ []) r (inl same) = inr (ap (λ x. Some (read x)) (sym same))
only_with read (s ∷ []) r (inr has) = absurd has
only_with read (s ∷ t ∷ rows) r has = inl refl

-- an account whose name was looked up, but that has no such name
pub holder_damaged : (db : Trees) (name : List ℕ) (number : ℕ) (named : Option (Option (List ℕ))) → HasOne account_names name db (Some (Some number)) → named ≡ row_at accounts db number → (named ≡ Some (Some name) → ⊥) → IsDamaged (tables_at db)
holder_damaged db name number named one is other =
    let r = one.0 in
    let row = has_in (has_key (account_names.at name)) (db 0) r one.1 in
    let here : has_key (accounts.at number) r ≡ true = and_from _ _ (at_number (column r 0) number (passed is_account_number _ number (sym one.2))) refl in
    elim (only_with (reads accounts) (rows_at (accounts.at number) (db 0)) r (in_has (has_key (accounts.at number)) (db 0) r row.0 here)) [
      | inl odd ↦ odd_damage (tables_at db) (AccountKey number) (ap (told AccountRow) odd)
      | inr reads_so ↦ by (reads accounts r) refl reads_so (and_parts _ _ row.1).0
    ]
  where
    by : (o : Option (List ℕ)) → reads accounts one.0 ≡ o → row_at accounts db number ≡ Some (reads accounts one.0) → is_eq (value_cmp (column one.0 2) (Text name)) ≡ true → IsDamaged (tables_at db)
    by None at so has = odd_damage (tables_at db) (AccountKey number) (ap (told AccountRow) (so ∙ ap (λ x. Some x) at))
    by (Some x) at so has =
        let same : x ≡ name = same_text (column one.0 2) x name (at_text (column one.0 2) x (passed is_word _ x at)) has in
        absurd (other (is ∙ so ∙ ap (λ x. Some x) at ∙ ap (λ x. Some (Some x)) same))

pub name_damaged : (db : Trees) (name : List ℕ) → HasOne account_names name db (Some None) → IsDamaged (tables_at db)
name_damaged db name one = unkeyed db 0 account_keyed (inl refl) one.0 (has_in (has_key (account_names.at name)) (db 0) one.0 one.1).0 (no_number is_account_number (number_in (column one.0 0)) (sym one.2))

-- a base whose commit was looked up, but that has no such commit
pub base_damaged : (db : Trees) (base : Base) (place : ℕ) (found : Option (Option (List ℕ))) → HasOne base_commits base db (Some (Some place)) → found ≡ row_at bases db (record { project = base.project; branch = base.branch; place = place })
    → (found ≡ Some (Some base.commit) → ⊥) → IsDamaged (tables_at db)
base_damaged db base place found one is other =
    let r = one.0 in
    let key : PlaceKey = record { project = base.project; branch = base.branch; place = place } in
    let row = has_in (has_key (base_commits.at base)) (db 6) r one.1 in
    let p = and_parts _ _ row.1 in
    let q = and_parts _ _ p.1 in
    let here : has_key (bases.at key) r ≡ true = and_from _ _ p.0 (and_from _ _ q.0 (and_from _ _ (at_number (column r 3) place (sym one.2)) refl)) in
    elim (only_with (reads bases) (rows_at (bases.at key) (db 6)) r (in_has (has_key (bases.at key)) (db 6) r row.0 here)) [
      | inl odd ↦ odd_damage (tables_at db) (BaseKey base.project base.branch place) (ap (told BaseRow) odd)
      | inr reads_so ↦ by (reads bases r) refl reads_so (and_parts _ _ q.1).0
    ]
  where
    by : (o : Option (List ℕ)) → reads bases one.0 ≡ o → row_at bases db (record { project = base.project; branch = base.branch; place = place }) ≡ Some (reads bases one.0) → is_eq (value_cmp (column one.0 4) (Text base.commit)) ≡ true → IsDamaged (tables_at db)
    by None at so has = odd_damage (tables_at db) (BaseKey base.project base.branch place) (ap (told BaseRow) (so ∙ ap (λ x. Some x) at))
    by (Some x) at so has =
        let same : x ≡ base.commit = same_text (column one.0 4) x base.commit (at_text (column one.0 4) x (passed is_commit _ x at)) has in
        absurd (other (is ∙ so ∙ ap (λ x. Some x) at ∙ ap (λ x. Some (Some x)) same))

pub commit_damaged : (db : Trees) (base : Base) → HasOne base_commits base db (Some None) → IsDamaged (tables_at db)
commit_damaged db base one =
    let r = one.0 in
    unkeyed db 6 base_keyed (inr (inr (inr (inl refl)))) r (has_in (has_key (base_commits.at base)) (db 6) r one.1).0
    (and_false (is_text (column r 1)) _ (and_false (is_text (column r 2)) _ (unread is_small (number_in (column r 3)) (sym one.2))))

-- ---- the row of the desk

pub desk_damaged : (db : Trees) → number_of (λ (d : DeskRow). d.version) (row_at desk db tt) ≡ 0 → IsDamaged (tables_at db)
desk_damaged db none h history view = let read = reading_of h history in let it = sym (none_said (row_at epochs db tt)) ∙ (view read.0 read.1).version in absurd (cc)
  where
    none_said : (o : Option (Option ℕ)) → version_in o (row_at desk db tt) ≡ 0
    none_said None = refl
    none_said (Some None) = refl
    none_said (Some (Some least)) = none

-- nor is one where no least open epoch is said
pub epochs_damaged : (db : Trees) → (row_at epochs db tt ≡ None) ⊎ (row_at epochs db tt ≡ Some None) → IsDamaged (tables_at db)
epochs_damaged db none h history view = let read = reading_of h history in let it = sym (none_said none) ∙ (view read.0 read.1).version in absurd (cc)
  where
    none_said : (row_at epochs db tt ≡ None) ⊎ (row_at epochs db tt ≡ Some None) → version_in (row_at epochs db tt) (row_at desk db tt) ≡ 0
    none_said (inl is) = ap (λ o. version_in o (row_at desk db tt)) is
    none_said (inr is) = ap (λ o. version_in o (row_at desk db tt)) is
