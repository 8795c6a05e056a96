-- The tables after changes, and the orders of their keys.
use Rattle.std.proofs.Common.{◌≡◌, ℕ, true, false, cond, ◌&&◌, not, ◌==◌, List, Option, Some, None, refl, ◌∙◌, ap, arith, is_eq, is_le, is_lt, nat_cmp, bytes_eq, Bool, option_map, IsSome, ◌+◌, ◌≤◌, [], ◌∷◌, ◌++◌, Result, Ok, Err, length, ⊎_elim, sym, subst, ◌⊎◌, inl, inr, All, Contains, IfSome, is_some, OnOk, OnErr}
use Rattle.std.proofs.lemmas.Cmp.{then_total, on_total, nat_cmp_total, nat_list_cmp_total, tied_itself}
use Rattle.std.proofs.lemmas.List.Elements.{All-head, All-tail, All-contains, All-weaker, Contains-append_left, Contains-push, Contains-push_cases}
use Rattle.std.proofs.lemmas.Map.Lookups.{CmpEqualImpliesEq, exact_unsigned, exact_bytes}
use Rattle.std.{proofs.lemmas.Map.Text.is_eq-slice_cmp, specs.Cmp.IsTotalOrder, specs.Cmp.unsigned_ties}
use Rattle.std.specs.declared.cmp.Ordering.TheVariants.{Less, Equal, Greater}
use Rattle.review_table.proofs.Places.{exact_by_parts}
use Rattle.review_table.specs.Rows.{row_in, rows_of, row_edit_of, after_row_edit, changed, HasNoEmptyPlace}
use Rattle.review_words.specs.History.{Identity, is_same}
use Rattle.review_machine_rows.proofs.Common.{AllocError, IsCommitted, Ordering, PartRow, RowEdit, is_at, option_or, ordering_then, same_Some, slice_cmp, some_mapped, tells_apart}
use Rattle.review_machine_rows.proofs.Puts.{is_eq-then}
use Rattle.review_machine_rows.specs.Rows.{member_cmp, Key, AccountKey, MemberKey, FileKey, BaseKey, PartKey, OddKey, Row, AccountRow, FileRow, BaseRow, APart, Count, Projects, BasesOf, ClosedEpochs, AnswerRow, Answered, Tables, member_row, member_change, account_change, after_put, count_put, place_cmp, after, count_after, kept_row, edited}
use Rattle.review_machine_rows.specs.declared.rows.{Delta.Delta, Kept.Kept, MemberKey.MemberKey as Member}
use Rattle.review_machine_rows.specs.declared.rows.{PlaceKey.PlaceKey, Put.Put, StoredFile.StoredFile}
use Rattle.review_memory_rows.proofs.Dropped.{at_account, exact_answer, at_answer}
use Rattle.review_memory_rows.specs.{Answers.key_of, Answers.answer_cmp, Bases.BranchesView, Bases.total_in}
use Rattle.review_memory_rows.specs.Kept.{ArePrepared, part_at, part_where}
use Rattle.review_memory_rows.specs.declared.answer_keys.{AnswerKey.AnswerKey, StoredAnswer.StoredAnswer}
use Rattle.review_memory.specs.Desk.{name_cmp, IsNumber, beside_epoch, Desk, desk_of, desk_with, tables_of, row_of, count_of, stored_row, file_changes, AddsNames, AreInUse, IsIndexed, IsNumbered, IsBounded, IsSound, IsGiven, IsHeld, IsNameOf, IsStored, IsUsed, AreIndexed, KeepsNames, AreChanges, AreChangesOf, AreApplied, IsWithBase, HasChanged, HasNoSpareRoom, HasRoom, HasRoomOnlyFor, PutsAnswer, with_stored}
use Rattle.review_memory.specs.declared.{changes.Changes.Changes, keys.NameKey.NameKey}
use Rattle.review_memory.specs.declared.tables.MemoryTables.{MemoryTables}

-- ==== the orders of keys: they are total, and tie only equal keys

pub member_total : IsTotalOrder member_cmp
member_total = then_total (on_total (λ (k : Member). k.group) nat_list_cmp_total) (on_total (λ (k : Member). k.account) nat_cmp_total)

pub name_total : IsTotalOrder name_cmp
name_total = then_total (on_total (λ (k : NameKey). k.name) nat_list_cmp_total) (on_total (λ (k : NameKey). k.account) nat_cmp_total)

pub exact_member : CmpEqualImpliesEq member_cmp
exact_member = exact_by_parts (slice_cmp nat_cmp) nat_cmp (λ (k : Member). k.group) (λ (k : Member). k.account) exact_bytes exact_unsigned (λ x y p q i. record { group = p i; account = q i })

pub exact_name : CmpEqualImpliesEq name_cmp
exact_name = exact_by_parts (slice_cmp nat_cmp) nat_cmp (λ (k : NameKey). k.name) (λ (k : NameKey). k.account) exact_bytes exact_unsigned (λ x y p q i. record { name = p i; account = q i })

pub at_member : (a b : Member) → is_at (member_cmp a) b ≡ (bytes_eq a.group b.group && (a.account == b.account))
at_member a b = is_eq-then (slice_cmp nat_cmp a.group b.group) (nat_cmp a.account b.account) ∙ (λ i. is_eq-slice_cmp a.group b.group i && at_account a.account b.account i)

-- the keys of one first part, where the second lies between two
between_of : {X : Type 0} (o least most : Ordering) (row : Option X) → ((x : X) → row ≡ Some x → (is_le least ≡ true) × (is_lt most ≡ false))
    → cond (is_le (ordering_then o least) && not (is_lt (ordering_then o most))) row None ≡ cond (is_eq o) row None
between_of Less least most row h = refl
between_of Greater least most row h = refl
between_of {X = X} Equal least most None h = elim (is_le least && not (is_lt most)) as (λ b. cond {A = Option X} b None None ≡ None) [ true ↦ refl | false ↦ refl ]
between_of Equal least most (Some x) h = let both = h x refl in let a = both.0 in let b = both.1 in rw (a, b) refl

numbered : (n : ℕ) → IsNumber n → (is_le (nat_cmp 1 n) ≡ true) × (is_lt (nat_cmp 1000000 n) ≡ false)
numbered n h = (grind (arith, unsigned_ties), grind (arith, unsigned_ties))

-- a row with a number, among those of one group or one name
pub row_between_numbers : {X : Type 0} (a b : List ℕ) (n : ℕ) (row : Option X) → ((x : X) → row ≡ Some x → IsNumber n)
    → cond (is_le (ordering_then (slice_cmp nat_cmp a b) (nat_cmp 1 n)) && not (is_lt (ordering_then (slice_cmp nat_cmp a b) (nat_cmp 1000000 n)))) row None ≡ cond (bytes_eq a b) row None
row_between_numbers a b n row h =
    between_of (slice_cmp nat_cmp a b) (nat_cmp 1 n) (nat_cmp 1000000 n) row (λ x is. numbered n (h x is)) ∙ ap (λ t. cond t row None) (is_eq-slice_cmp a b)

-- ==== rows that are taken over from others

-- one more row is taken over
pub taken_over : (at : Bool) (left old : Option (Unit {0})) → option_or left (cond at (Some tt) old) ≡ option_or (cond at (Some tt) left) old
taken_over true None old = refl
taken_over true (Some u) old = refl
taken_over false left old = refl

pub mapped_is_some : {X Y : Type 0} (f : X → Y) (o : Option X) → IsSome o → IsSome (option_map f o)
mapped_is_some f None some = some
mapped_is_some f (Some x) some = refl

-- ==== the tables after changes

-- names that are listed stay so
more_listed : (names : List NameKey) (key : NameKey) (number : ℕ) (o : Option (List ℕ)) → IfSome o (λ name. Contains names (record { name = name; account = number })) → IfSome o (λ name. Contains (names ++ key ∷ []) (record { name = name; account = number }))
more_listed names key number None h = tt
more_listed names key number (Some name) h = Contains-append_left names (key ∷ []) (record { name = name; account = number }) h

pub given_more : (names : List NameKey) (key : NameKey) (c : RowEdit ℕ (List ℕ)) → IsGiven names c → IsGiven (names ++ key ∷ []) c
given_more names key c h = (h.0, more_listed names key c.key c.row h.1)

pub held_more : (accounts : List (ℕ × List ℕ)) (names : List NameKey) (key : NameKey) (c : RowEdit ℕ (List ℕ)) → IsHeld accounts names c → IsHeld accounts (names ++ key ∷ []) c
held_more accounts names key c h = more_listed names key c.key (row_in nat_cmp accounts c.key) h

pub listed_here : (names : List NameKey) (number : ℕ) (name : List ℕ) (o : Option (List ℕ)) → o ≡ Some name → IfSome o (λ n. Contains (names ++ record { name = name; account = number } ∷ []) (record { name = n; account = number }))
listed_here names number name o is =
    subst (λ p. IfSome p (λ n. Contains (names ++ record { name = name; account = number } ∷ []) (record { name = n; account = number }))) (sym is) (Contains-push names (record { name = name; account = number }))

-- what holds of each change holds of the one that is found
found_first : {K X : Type 0} (P : K → Option X → Type 0) (b : Bool) (c : RowEdit K X) (k : K) (rest : Option (Option X)) (row : Option X) → cond b (Some c.row) rest ≡ Some row → (b ≡ true → c.key ≡ k) → P c.key c.row → (rest ≡ Some row → P k row) → P k row
found_first P true c k rest row is same here there = subst (λ r. P k r) (same_Some c.row row is) (subst (λ x. P x c.row) (same refl) here)
found_first P false c k rest row is same here there = there is

pub change_holds : {K X : Type 0} {R : K → K → Ordering} → CmpEqualImpliesEq R → (P : K → Option X → Type 0) (cs : List (RowEdit K X)) → All (λ c. P c.key c.row) cs → (k : K) (row : Option X) → row_edit_of R cs k ≡ Some row → P k row
change_holds exact P [] all k row is = absurd (cc)
change_holds {R = R} exact P (c ∷ cs) all k row is =
    found_first P (is_at (R c.key) k) c k (row_edit_of R cs k) row is (tells_apart exact c.key k) (All-head (λ x. P x.key x.row) c cs all) (change_holds exact P cs (All-tail (λ x. P x.key x.row) c cs all) k row)

-- an account after changes is in the index, and a member is an account by its number
account_indexed : (change : Option (Option (List ℕ))) (was : Option (List ℕ)) (name : List ℕ) (P : Type 0) → after_row_edit change was ≡ Some name → ((row : Option (List ℕ)) → change ≡ Some row → row ≡ Some name → P) → (was ≡ Some name → P) → P
account_indexed None was name P is put kept = kept is
account_indexed (Some row) was name P is put kept = put row refl is

-- the same changes, of lists that are the same
pub same_changes : {xs ys : List (RowEdit ℕ (List ℕ))} {us vs : List (RowEdit Member (Unit {0}))} (file : Option (Put (List ℕ) StoredFile)) (changes : Changes) → xs ≡ ys → us ≡ vs → AreChanges xs us file changes → AreChanges ys vs file changes
same_changes {xs} {ys} {us} {vs} file changes one two are = subst (λ ms. AreChanges ys ms file changes) two (subst (λ ns. AreChanges ns us file changes) one are)

pub applied_indexed : (delta : Delta) (changes : Changes) (given : List NameKey) (projects : ℕ) (old new : MemoryTables) → AreChangesOf delta changes → All (IsGiven given) delta.accounts.items → AreIndexed (rows_of new.names) given
    → KeepsNames (rows_of old.names) (rows_of new.names) → AreApplied (desk_of old) changes projects (desk_of new) → IsIndexed (rows_of old.accounts) (rows_of old.names) → IsIndexed (rows_of new.accounts) (rows_of new.names)
applied_indexed delta changes given projects old new copies are listed keeps applied indexed number name is =
    let G : Type 0 = IsNumber number × (row_in name_cmp (rows_of new.names) (record { name = name; account = number }) ≡ Some tt) in
    let was = row_in nat_cmp (rows_of old.accounts) number in
    account_indexed (row_edit_of nat_cmp delta.accounts.items number) was name G
    (ap (λ cs. changed nat_cmp cs number was) (sym copies.accounts) ∙ (sym (applied.accounts number) ∙ is))
    (λ row found named.
    let h = change_holds exact_unsigned (λ n r. IsNumber n × IfSome r (λ x. Contains given (record { name = x; account = n }))) delta.accounts.items are number row found in
    let there : Contains given (record { name = name; account = number }) = subst (λ r. IfSome r (λ x. Contains given (record { name = x; account = number }))) named h.1 in
    (h.0, All-contains (λ k. row_in name_cmp (rows_of new.names) k ≡ Some tt) given (record { name = name; account = number }) listed there))
    (λ before. let h = indexed number name before in (h.0, keeps (record { name = name; account = number }) h.1))

member_numbered : (change : Option (Option (Unit {0}))) (was : Option (Unit {0})) (P : Type 0) → after_row_edit change was ≡ Some tt → ((row : Option (Unit {0})) → change ≡ Some row → P) → (was ≡ Some tt → P) → P
member_numbered None was P is put kept = kept is
member_numbered (Some row) was P is put kept = put row refl

pub applied_numbered : (delta : Delta) (changes : Changes) (projects : ℕ) (old new : Desk) → AreChangesOf delta changes → AreApplied old changes projects new → IsNumbered old.members → IsNumbered new.members
applied_numbered delta changes projects old new copies applied numbered k is =
    let was = row_in member_cmp old.members k in
    member_numbered (row_edit_of member_cmp delta.members.items k) was (IsNumber k.account)
    (ap (λ cs. changed member_cmp cs k was) (sym copies.members) ∙ (sym (applied.members k) ∙ is))
    (λ row found. change_holds exact_member (λ m _. IsNumber m.account) delta.members.items copies.numbered k row found)
    (numbered k)

-- the tables of the desk after changes
account_after : (change : Option (Option (List ℕ))) (was : Option (List ℕ)) → option_map AccountRow (after_row_edit change was) ≡ after_row_edit (account_change change) (option_map AccountRow was)
account_after None was = refl
account_after (Some row) was = refl

member_after : (change : Option (Option (Unit {0}))) (was : Option (Unit {0})) → member_row (after_row_edit change was) ≡ after_row_edit (member_change change) (member_row was)
member_after None was = refl
member_after (Some row) was = refl

answer_after : (kept : Kept) (i : Identity) (b : Bool) (row : StoredAnswer) (was : Option StoredAnswer) → (b ≡ true → (kept_row kept).identity ≡ i) → stored_row (kept_row kept).identity (Some row) ≡ Some (kept_row kept)
    → stored_row i (cond b (Some row) was) ≡ cond b (Some (kept_row kept)) (stored_row i was)
answer_after kept i true row was same is = ap (λ j. stored_row j (Some row)) (sym (same refl)) ∙ is
answer_after kept i false row was same is = refl

answer_there : (b : Bool) (row : AnswerRow) (was : Option AnswerRow) → option_map Answered (cond b (Some row) was) ≡ cond b (Some (Answered row)) (option_map Answered was)
answer_there true row was = refl
answer_there false row was = refl

-- the row of a key, where one is put
row_put : {X : Type 0} (kind : X → Row) (b : Bool) (row : X) (was : Option X) → option_map kind (cond b (Some row) was) ≡ cond b (Some (kind row)) (option_map kind was)
row_put kind true row was = refl
row_put kind false row was = refl

change_put : {X : Type 0} (kind : X → Row) (b : Bool) (row : X) (was : Option X) → option_map kind (after_row_edit (cond b (Some (Some row)) None) was) ≡ cond b (Some (kind row)) (option_map kind was)
change_put kind true row was = refl
change_put kind false row was = refl

file_row_after : (put : Option (Put (List ℕ) StoredFile)) (project : List ℕ) (was : Option StoredFile) →
    option_map FileRow (changed (slice_cmp nat_cmp) (file_changes put) project was) ≡ after_put (slice_cmp nat_cmp) FileRow put project (option_map FileRow was)
file_row_after None project was = refl
file_row_after (Some put) project was = change_put FileRow (is_at (slice_cmp nat_cmp put.key) project) put.row was

base_row_after : (base : Option (Put PlaceKey (List ℕ))) (old new : BranchesView) → IsWithBase base old new → (k : PlaceKey) →
    option_map BaseRow (row_in place_cmp new.bases k) ≡ after_put place_cmp BaseRow base k (option_map BaseRow (row_in place_cmp old.bases k))
base_row_after None old new same k = ap (λ (v : BranchesView). option_map BaseRow (row_in place_cmp v.bases k)) same
base_row_after (Some base) old new put k = ap (option_map BaseRow) (put.bases k) ∙ row_put BaseRow (is_at (place_cmp base.key) k) base.row (row_in place_cmp old.bases k)

-- the row of a change that is edited
part_after : (change : Option (Option PartRow)) (was : Option PartRow) → option_map APart (after_row_edit change was) ≡ after_row_edit (option_map (option_map APart) change) (option_map APart was)
part_after None was = refl
part_after (Some row) was = refl

-- the rows of projects and those of bases, each by its key
abbrev files_of : (Key → Option Row) → List ℕ → Option Row
files_of row p = row (FileKey p)

abbrev bases_of : (Key → Option Row) → PlaceKey → Option Row
bases_of row k = row (BaseKey k.project k.branch k.place)

total_after : (base : Option (Put PlaceKey (List ℕ))) (old new : Desk) → IsWithBase base old.branches new.branches → (p : List ℕ) →
    total_in new.branches.totals p ≡ count_put (λ k. bytes_eq k.project p) base (bases_of (row_of old)) (total_in old.branches.totals p)
total_after None old new same p = ap (λ (v : BranchesView). total_in v.totals p) same
total_after (Some base) old new put p =
    put.totals p
    ∙ ap (λ t. cond (bytes_eq base.key.project p) (cond t (total_in old.branches.totals p) (total_in old.branches.totals p + 1)) (total_in old.branches.totals p))
    (sym (some_mapped BaseRow (row_in place_cmp old.branches.bases base.key)))

pub committed : (delta : Delta) (kept : Kept) (changes : Changes) (projects : ℕ) (answer : Put AnswerKey StoredAnswer) (old new : Desk) → AreChangesOf delta changes → ArePrepared old.changes delta.changes.items changes.edits →
    PutsAnswer kept answer → AreApplied old changes projects new → IsWithBase delta.base old.branches new.branches → IsStored answer old.answers new.answers → projects ≡ count_put (λ p. true) delta.file (files_of (row_of old)) old.projects →
    IsCommitted (tables_of old) (beside_epoch delta) (kept_row kept) (tables_of new)
committed delta kept changes projects answer old new copies prepared puts applied based stored number = record {
  row_is = rows;
  count_is = counts;
  answer_is = λ i.
      let key : AnswerKey = key_of (kept_row kept).identity in
      let asked : AnswerKey = key_of i in
      let was = row_in answer_cmp old.answers asked in
      ap (option_map Answered) (ap (stored_row i) (stored asked ∙ ap (λ k. cond (is_at (answer_cmp k) asked) (Some answer.row) was) puts.key)
      ∙ answer_after kept i (is_at (answer_cmp key) asked) answer.row was (λ same. ap (λ (k : AnswerKey). record { caller = k.caller; epoch = k.epoch; id = k.id }) (tells_apart exact_answer key asked same)) puts.row
      ∙ ap (λ b. cond b (Some (kept_row kept)) (stored_row i was)) (at_answer key asked))
      ∙ answer_there (is_same (kept_row kept).identity i) (kept_row kept) (stored_row i was);
  version = refl;
  requests = applied.requests;
}
  where
    counts : (c : Count) → count_of new c ≡ count_after (beside_epoch delta) (row_of old) c (count_of old c)
    counts Projects = applied.projects_are ∙ number
    counts (BasesOf project) = total_after delta.base old new based project
    counts ClosedEpochs = applied.least

    rows : (k : Key) → row_of new k ≡ after (beside_epoch delta) k (row_of old k)
    rows (AccountKey n) = ap (option_map AccountRow) (applied.accounts n ∙ ap (λ cs. changed nat_cmp cs n (row_in nat_cmp old.accounts n)) copies.accounts) ∙ account_after (row_edit_of nat_cmp delta.accounts.items n) (row_in nat_cmp old.accounts n)
    rows (MemberKey group account) =
        let k : Member = record { group = group; account = account } in
        ap member_row (applied.members k ∙ ap (λ cs. changed member_cmp cs k (row_in member_cmp old.members k)) copies.members) ∙ member_after (row_edit_of member_cmp delta.members.items k) (row_in member_cmp old.members k)
    rows (FileKey project) =
        ap (option_map FileRow) (applied.files project ∙ ap (λ cs. changed (slice_cmp nat_cmp) cs project (row_in (slice_cmp nat_cmp) old.files project)) copies.files)
        ∙ file_row_after delta.file project (row_in (slice_cmp nat_cmp) old.files project)
    rows (BaseKey project branch place) = base_row_after delta.base old.branches new.branches based (record { project = project; branch = branch; place = place })
    rows (PartKey n part) =
        ap (option_map APart) (ap (λ o. part_where o part) (applied.edits n) ∙ prepared.tables n part)
        ∙ part_after (edited delta.changes.items n part) (part_at old.changes n part)
    rows (OddKey o) = refl

-- there is room beside other branches and answers
pub room_stored : (t : MemoryTables) (branches : BranchesView) (answers : List (AnswerKey × Option StoredAnswer)) (changes : Changes) → HasRoom t changes → HasRoom (with_stored t branches answers) changes
room_stored t branches answers changes room = record { accounts = room.accounts; members = room.members; files = room.files; edits = room.edits }

pub spare_stored : (t : MemoryTables) (branches : BranchesView) (answers : List (AnswerKey × Option StoredAnswer)) (changes : Changes) → HasNoEmptyPlace answer_cmp answers → HasRoomOnlyFor changes t → HasRoomOnlyFor changes (with_stored t branches answers)
spare_stored t branches answers changes full only = record { accounts = only.accounts; names = only.names; members = only.members; files = only.files; edits = only.edits; answers = full }

-- the changes of the same rows beside other branches and answers
pub applied_from : (old mid : Desk) (branches : BranchesView) (answers : List (AnswerKey × StoredAnswer)) (changes : Changes) (projects : ℕ) (new : Desk) → mid ≡ desk_with old branches answers →
    AreApplied mid changes projects new → AreApplied old changes projects new
applied_from old mid branches answers changes projects new same was =
    let applied = subst (λ d. AreApplied d changes projects new) same was in
    record {
      accounts = applied.accounts;
      members = applied.members;
      files = applied.files;
      edits = applied.edits;
      projects_are = applied.projects_are;
      least = applied.least;
      requests = applied.requests;
    }

-- nothing is counted more often than there were requests
total_bounded : (b c : Bool) (t n : ℕ) → t ≤ n → cond b (cond c t (t + 1)) t ≤ n + 1
total_bounded true true t n le = omega arith
total_bounded true false t n le = omega arith
total_bounded false c t n le = omega arith

count_bounded : {K X : Type 0} (test : K → Bool) (put : Option (Put K X)) (row : K → Option Row) (t n : ℕ) → t ≤ n → count_put test put row t ≤ n + 1
count_bounded test None row t n le = omega arith
count_bounded test (Some put) row t n le = total_bounded (test put.key) (is_some (row put.key)) t n le

pub applied_bounded : (delta : Delta) (changes : Changes) (projects : ℕ) (old new : Desk) → AreApplied old changes projects new → IsWithBase delta.base old.branches new.branches →
    projects ≡ count_put (λ p. true) delta.file (files_of (row_of old)) old.projects → IsBounded old → IsBounded new
applied_bounded delta changes projects old new applied based number bounded = record {
  projects = subst (λ n. new.projects ≤ n) (sym applied.requests) (subst (λ n. n ≤ old.requests + 1) (sym (applied.projects_are ∙ number)) (count_bounded (λ p. true) delta.file (files_of (row_of old)) old.projects old.requests bounded.projects));
  bases = λ p. subst (λ n. total_in new.branches.totals p ≤ n) (sym applied.requests)
      (subst (λ n. n ≤ old.requests + 1) (sym (total_after delta.base old new based p)) (count_bounded (λ k. bytes_eq k.project p) delta.base (bases_of (row_of old)) (total_in old.branches.totals p) old.requests (bounded.bases p)));
}

-- a name that was in the index is that of its account still, or one that an account had before it changed
still_held : (delta : Delta) (held : List NameKey) (old new : List (ℕ × List ℕ)) → All (IsHeld old held) delta.accounts.items → ((n : ℕ) → row_in nat_cmp new n ≡ changed nat_cmp delta.accounts.items n (row_in nat_cmp old n)) →
    (k : NameKey) → row_in nat_cmp old k.account ≡ Some k.name → (row_in nat_cmp new k.account ≡ Some k.name) ⊎ Contains held k
still_held delta held old new are done k there = at (row_edit_of nat_cmp delta.accounts.items k.account) refl
  where
    at : (o : Option (Option (List ℕ))) → row_edit_of nat_cmp delta.accounts.items k.account ≡ o → (row_in nat_cmp new k.account ≡ Some k.name) ⊎ Contains held k
    at None is = inl (done k.account ∙ (ap (λ c. after_row_edit c (row_in nat_cmp old k.account)) is ∙ there))
    at (Some row) is =
        let h = change_holds exact_unsigned (λ n r. IfSome (row_in nat_cmp old n) (λ name. Contains held (record { name = name; account = n }))) delta.accounts.items are k.account row is in
        inr (subst (λ o. IfSome o (λ name. Contains held (record { name = name; account = k.account }))) there h)

pub made_held : (delta : Delta) (changes : Changes) (held : List NameKey) (projects : ℕ) (old new : MemoryTables) → AreChangesOf delta changes →
    All (IsHeld (rows_of old.accounts) held) delta.accounts.items → AreApplied (desk_of old) changes projects (desk_of new) → AreInUse (rows_of old.accounts) (rows_of old.names) →
    (k : NameKey) → row_in name_cmp (rows_of old.names) k ≡ Some tt → (row_in nat_cmp (rows_of new.accounts) k.account ≡ Some k.name) ⊎ Contains held k
made_held delta changes held projects old new copies are done used k there =
    still_held delta held (rows_of old.accounts) (rows_of new.accounts) are (λ n. done.accounts n ∙ ap (λ cs. changed nat_cmp cs n (row_in nat_cmp (rows_of old.accounts) n)) copies.accounts) k (used k there)

-- the names of accounts are listed still where more are listed
pub listed_still : (old new : MemoryTables) → desk_of new ≡ desk_of old → KeepsNames (rows_of old.names) (rows_of new.names) → IsIndexed (rows_of old.accounts) (rows_of old.names) → IsIndexed (rows_of new.accounts) (rows_of new.names)
listed_still old new same keeps indexed number name is =
    let was = indexed number name (ap (λ (d : Desk). row_in nat_cmp d.accounts number) (sym same) ∙ is) in (was.0, keeps (record { name = name; account = number }) was.1)

-- where no change was made, and the names that were listed for it are dropped, the tables are sound
pub unmade_sound : (given : List NameKey) (old mid last : MemoryTables) → IsSound old → desk_of last ≡ desk_of old → AddsNames (rows_of old.names) given (rows_of mid.names) → KeepsNames (rows_of last.names) (rows_of mid.names) →
    All (IsUsed (rows_of last.accounts) (rows_of last.names)) given → IsIndexed (rows_of last.accounts) (rows_of last.names) → HasNoSpareRoom last → IsSound last
unmade_sound given old mid last sound same only fewer dropped indexed filled = record {
  indexed = indexed;
  in_use = λ k there.
      ⊎_elim
      (λ had. ap (λ (d : Desk). row_in nat_cmp d.accounts k.account) same ∙ sound.in_use k had)
      (λ put. All-contains (IsUsed (rows_of last.accounts) (rows_of last.names)) given k dropped put there)
      (only k (fewer k there));
  numbered = subst (λ (d : Desk). IsNumbered d.members) (sym same) sound.numbered;
  bounded = subst IsBounded (sym same) sound.bounded;
  filled = filled;
}

nat_at_itself : (n : ℕ) → is_at (nat_cmp n) n ≡ true
nat_at_itself n = ap is_eq (tied_itself nat_cmp_total n)

-- one change of an account gives it the name that it has then
used_one : (changes : List (RowEdit ℕ (List ℕ))) (accounts : List (ℕ × List ℕ)) (k : NameKey) → length changes ≤ 1 → HasChanged changes accounts → IsNameOf changes k → row_in nat_cmp accounts k.account ≡ Some k.name
used_one [] accounts k few has is = let none = is.1 in absurd (omega arith)
used_one (c ∷ []) accounts k few has is =
    let here : c ≡ record { key = k.account; row = Some k.name } = ⊎_elim (λ (none : Contains [] _). let below = none.1 in absurd (omega arith)) (λ same. same) (Contains-push_cases [] c (record { key = k.account; row = Some k.name }) is) in
    let h = has k.account in
    h.1 ∙ (ap (λ x. changed nat_cmp (x ∷ []) k.account h.0) here ∙ ap (λ b. after_row_edit (cond b (Some (Some k.name)) None) h.0) (nat_at_itself k.account))
used_one (c ∷ d ∷ cs) accounts k few has is = absurd (omega arith)

pub used_given : (changes : List (RowEdit ℕ (List ℕ))) (accounts : List (ℕ × List ℕ)) (names : List (NameKey × Unit {0})) (given : List NameKey) → length changes ≤ 1 → All (IsNameOf changes) given → HasChanged changes accounts →
    All (IsUsed accounts names) given
used_given changes accounts names given few only has = All-weaker (IsNameOf changes) (IsUsed accounts names) (λ k is there. used_one changes accounts k few has is) given only

-- a stop after the changes leaves the desk before them or after them
pub made_stops : (delta : Delta) (kept : Kept) (r : Result (Unit {0}) AllocError) (old new : Desk) (t : Tables) → OnOk r (IsCommitted (tables_of old) delta (kept_row kept) (tables_of new)) → OnErr r (tables_of new ≡ tables_of old) → t ≡ tables_of new
    → (t ≡ tables_of old) ⊎ IsCommitted (tables_of old) delta (kept_row kept) t
made_stops delta kept (Ok u) old new t done same is = inr (subst (IsCommitted (tables_of old) delta (kept_row kept)) (sym is) done)
made_stops delta kept (Err e) old new t done same is = inl (is ∙ same)
