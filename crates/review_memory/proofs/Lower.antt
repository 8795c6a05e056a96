-- What is given up, and the places that it leaves.
use Rattle.std.proofs.Common.{ℕ, ◌≤◌, List, length, take, sym, take_all, All, ◌≡◌, Bool, true, false, cond, ◌||◌, Option, Some, None, refl, ap, ◌∙◌, subst, ⊎_elim, nat_lt, option_map, unwrap_or, [], ◌∷◌, Result, Ok, Err, arith, drop, length-drop, is_some, nat_cmp, OnErr, OnOk}
use Rattle.std.proofs.lemmas.{Bool.or_parts, Bool.cases_Bool, List.Elements.All-same}
use Rattle.review_table.specs.Rows.{HasNoEmptyPlace, row_in, rows_of, after_row_edit, row_edit_of, changed, is_named, place_at, HasEmptyOnly}
use Rattle.review_machine_rows.proofs.Common.{Identity, IsCommitted, Ordering, RowEdit, is_at, is_same, list_any-append, slice_cmp, tells_apart}
use Rattle.review_machine_rows.specs.Rows.{Key, AccountKey, Row, Count, Projects, BasesOf, ClosedEpochs, Stored, Answered, after, count_after, is_below, kept_row}
use Rattle.review_machine_rows.specs.declared.rows.{Delta.Delta, Kept.Kept, Put.Put, StoredFile.StoredFile}
use Rattle.review_memory_rows.proofs.Based.{none_spare}
use Rattle.review_memory_rows.proofs.Dropped.{among_lower, among_own, not_lower, not_own, at_answer, exact_answer}
use Rattle.review_memory_rows.specs.Answers.{answer_cmp, key_of, is_among, if_lower, lower, lower_of}
use Rattle.review_memory_rows.specs.Kept.{KeptView, IsFull, IsFullBut, place_cmp, sent_cmp}
use Rattle.review_memory_rows.specs.declared.answer_keys.{AnswerKey.AnswerKey, StoredAnswer.StoredAnswer}
use Rattle.review_memory_rows.specs.declared.kept.Prepared.{Prepared}
use Rattle.review_memory.specs.Desk.{desk_of, tables_of, row_of, count_of, answer_of, stored_row, beside_epoch, with_answers, IsSound, file_changes, is_removed, is_taken}
use Rattle.review_memory.specs.declared.tables.MemoryTables.{MemoryTables}

-- ==== steps of loops that show a fact of each element

pub All-whole : {X : Type 0} (P : X → Type 0) (xs : List X) (i : ℕ) → length xs ≤ i → All P (take i xs) → All P xs
All-whole P xs i past all = All-same P xs (take i xs) (sym (take_all i xs past)) all

-- ==== what is given up of lower epochs

-- no row has a lower epoch where its key is none of those
no_row : (least : ℕ) (rows : List (AnswerKey × StoredAnswer)) (i : Identity) → nat_lt i.epoch least ≡ true → is_among (lower least rows) (key_of i) ≡ false → answer_of rows i ≡ None
no_row least rows i below none = at (row_in answer_cmp rows (key_of i)) refl
  where
    at : (o : Option StoredAnswer) → row_in answer_cmp rows (key_of i) ≡ o → answer_of rows i ≡ None
    at None there = ap (λ r. option_map Answered (stored_row i r)) there
    at (Some v) there = absurd (let t = among_lower least rows (key_of i) v below there in cc)

-- nor has the request that is stored
not_kept : (least : ℕ) (kept i : Identity) → nat_lt i.epoch least ≡ true → is_among (if_lower least (key_of kept)) (key_of i) ≡ false → is_same kept i ≡ false
not_kept least kept i below none = ⊎_elim
    (λ (t : is_same kept i ≡ true).
    absurd (let e = among_own least (key_of kept) (key_of i) (tells_apart exact_answer (key_of kept) (key_of i) (at_answer (key_of kept) (key_of i) ∙ t)) below in cc))
    (λ (f : is_same kept i ≡ false). f)
    (cases_Bool (is_same kept i))

-- what is kept of an identity, once these keys are dropped
given_up : (o : Option ℕ) (rows : List (AnswerKey × StoredAnswer)) (kept i : Identity) (x : Stored) (mid : Option StoredAnswer) →
    option_map Answered (stored_row i mid) ≡ cond (is_same kept i) (Some x) (answer_of rows i) →
    option_map Answered (stored_row i (cond (is_among (lower_of o rows (key_of kept)) (key_of i)) None mid)) ≡ cond (is_below o i.epoch) None (cond (is_same kept i) (Some x) (answer_of rows i))
given_up None rows kept i x mid is = is
given_up (Some least) rows kept i x mid is = ⊎_elim
    (λ (below : nat_lt i.epoch least ≡ true).
    at below (is_among (lower_of (Some least) rows (key_of kept)) (key_of i)) refl ∙ sym (ap (λ b. cond b None (cond (is_same kept i) (Some x) (answer_of rows i))) below))
    (λ (above : nat_lt i.epoch least ≡ false).
    ap (λ b. option_map Answered (stored_row i (cond b None mid))) (split ∙ (λ j. not_lower least rows (key_of i) above j || not_own least (key_of kept) (key_of i) above j))
    ∙ (is ∙ sym (ap (λ b. cond b None (cond (is_same kept i) (Some x) (answer_of rows i))) above)))
    (cases_Bool (nat_lt i.epoch least))
  where
    split : is_among (lower_of (Some least) rows (key_of kept)) (key_of i) ≡ (is_among (lower least rows) (key_of i) || is_among (if_lower least (key_of kept)) (key_of i))
    split = list_any-append (λ y. is_at (answer_cmp y) (key_of i)) (lower least rows) (if_lower least (key_of kept))

    at : nat_lt i.epoch least ≡ true → (b : Bool) → is_among (lower_of (Some least) rows (key_of kept)) (key_of i) ≡ b → option_map Answered (stored_row i (cond b None mid)) ≡ None
    at below true among = refl
    at below false none =
        let parts = or_parts (is_among (lower least rows) (key_of i)) (is_among (if_lower least (key_of kept)) (key_of i)) (sym split ∙ none) in
        is ∙ (ap (λ c. cond c (Some x) (answer_of rows i)) (not_kept least kept i below parts.1) ∙ no_row least rows i below parts.0)

-- the rows and counts beside what is stored of requests
rows_beside : (t : MemoryTables) (answers : List (AnswerKey × Option StoredAnswer)) (least : ℕ) (k : Key) → row_of (desk_of (with_answers t answers least)) k ≡ row_of (desk_of t) k
rows_beside t answers least (AccountKey number) = refl
rows_beside t answers least _ = refl

after_beside : (delta : Delta) (k : Key) (was : Option Row) → after (beside_epoch delta) k was ≡ after delta k was
after_beside delta (AccountKey number) was = refl
after_beside delta _ was = refl

-- a delta is applied, once it is so but for its epoch and what is lower is given up
pub all_committed : (delta : Delta) (kept : Kept) (keys : List AnswerKey) (old mid new : MemoryTables) → keys ≡ lower_of delta.least_epoch (rows_of old.answers) (key_of (kept_row kept).identity) →
    IsCommitted (tables_of (desk_of old)) (beside_epoch delta) (kept_row kept) (tables_of (desk_of mid)) → new ≡ with_answers mid new.answers (unwrap_or delta.least_epoch mid.least) →
    ((q : AnswerKey) → row_in answer_cmp (rows_of new.answers) q ≡ cond (is_among keys q) None (row_in answer_cmp (rows_of mid.answers) q)) →
    IsCommitted (tables_of (desk_of old)) delta (kept_row kept) (tables_of (desk_of new))
all_committed delta kept keys old mid new are c rest dropped = record {
  row_is = λ k. ap (λ (t : MemoryTables). row_of (desk_of t) k) rest ∙ rows_beside mid new.answers (unwrap_or delta.least_epoch mid.least) k ∙ c.row_is k ∙ after_beside delta k (row_of (desk_of old) k);
  count_is = counts;
  answer_is = λ i.
      ap (λ r. option_map Answered (stored_row i r)) (dropped (key_of i) ∙ ap (λ ks. cond (is_among ks (key_of i)) None (row_in answer_cmp (rows_of mid.answers) (key_of i))) are)
      ∙ given_up delta.least_epoch (rows_of old.answers) (kept_row kept).identity i (Answered (kept_row kept)) (row_in answer_cmp (rows_of mid.answers) (key_of i)) (c.answer_is i);
  version = refl;
  requests = ap (λ (t : MemoryTables). t.requests) rest ∙ c.requests;
}
  where
    counts : (n : Count) → count_of (desk_of new) n ≡ count_after delta (row_of (desk_of old)) n (count_of (desk_of old) n)
    counts Projects = ap (λ (t : MemoryTables). t.projects) rest ∙ c.count_is Projects
    counts (BasesOf project) = ap (λ (t : MemoryTables). count_of (desk_of t) (BasesOf project)) rest ∙ c.count_is (BasesOf project)
    counts ClosedEpochs = ap (λ (t : MemoryTables). t.least) rest ∙ ap (unwrap_or delta.least_epoch) (c.count_is ClosedEpochs)

-- what held of the tables holds without what was given up
pub sound_beside : (old : MemoryTables) (new : MemoryTables) (least : ℕ) → new ≡ with_answers old new.answers least → (HasNoEmptyPlace answer_cmp old.answers → HasNoEmptyPlace answer_cmp new.answers) → IsSound old → IsSound new
sound_beside old new least rest filled sound = subst IsSound (sym rest) (record {
  indexed = sound.indexed;
  in_use = sound.in_use;
  numbered = sound.numbered;
  bounded = record { projects = sound.bounded.projects; bases = sound.bounded.bases };
  filled = record {
    accounts = sound.filled.accounts;
    names = sound.filled.names;
    members = sound.filled.members;
    files = sound.filled.files;
    changes = sound.filled.changes;
    answers = filled sound.filled.answers;
  };
})

-- ==== places without a row: none, or only those of keys that changes name

-- what holds whatever a call gave
pub on_ok : {X E : Type 0} (r : Result X E) (P : Type 0) → P → OnOk r P
on_ok (Ok x) P holds = holds
on_ok (Err e) P holds = tt

pub on_err : {X E : Type 0} (r : Result X E) (P : Type 0) → P → OnErr r P
on_err (Ok x) P holds = tt
on_err (Err e) P holds = holds

-- a place that is left empty by changes is of a key whose row they take away
taken_by : {X : Type 0} (change : Option (Option X)) (place : Option (Option X)) → option_map (after_row_edit change) place ≡ Some None → (place ≡ Some None → is_some change ≡ true) → is_taken change ≡ true
taken_by change None is named = absurd (cc)
taken_by None (Some was) is named = absurd (let named = named is in cc)
taken_by (Some row) (Some was) is named = let none : row ≡ None = cc in ap (λ (r : Option _). is_taken (Some r)) none

pub removed_only : {K X : Type 0} (R : K → K → Ordering) (cs : List (RowEdit K X)) (old new : List (K × Option X)) → ((q : K) → place_at R new q ≡ option_map (changed R cs q) (place_at R old q)) →
    HasEmptyOnly R (is_named R cs) old → HasEmptyOnly R (is_removed R cs) new
removed_only R cs old new each only q empty = taken_by (row_edit_of R cs q) (place_at R old q) (sym (each q) ∙ empty) (only q)

-- nothing is left behind the end
pub past_all : {X : Type 0} (xs : List X) (i : ℕ) → length xs ≤ i → drop i xs ≡ []
past_all xs i past = length-zero (drop i xs) (length-drop i xs ∙ omega arith)
  where
    length-zero : {X : Type 0} (ys : List X) → length ys ≡ 0 → ys ≡ []
    length-zero [] h = refl
    length-zero (y ∷ ys) h = absurd (omega arith)

-- where nothing is taken away, no place is left empty
pub none_removed : {K X : Type 0} (R : K → K → Ordering) (t : List (K × Option X)) → HasEmptyOnly R (is_removed {X = X} R []) t → HasNoEmptyPlace R t
none_removed R t only q empty = let bad = only q empty in absurd (cc)

put_only : {X : Type 0} (b : Bool) (row : X) → is_taken (cond b (Some (Some row)) None) ≡ true → ⊥
put_only true row h = cc
put_only false row h = cc

-- a project's file is never taken away
pub file_stays : (put : Option (Put (List ℕ) StoredFile)) (t : List (List ℕ × Option StoredFile)) → HasEmptyOnly (slice_cmp nat_cmp) (is_removed (slice_cmp nat_cmp) (file_changes put)) t → HasNoEmptyPlace (slice_cmp nat_cmp) t
file_stays None t only q empty = let bad = only q empty in absurd (cc)
file_stays (Some put) t only q empty = put_only (is_at (slice_cmp nat_cmp put.key) q) put.row (only q empty)

-- where no place is empty, those of edits aren't either
pub none_spare_of_edits : (p : Prepared) (v : KeptView) → IsFull v → IsFullBut p v
none_spare_of_edits p v full = record {
  kept = none_spare nat_cmp (is_named nat_cmp p.begun.items) v.kept full.kept;
  sent = none_spare sent_cmp (is_named sent_cmp p.keys.items) v.sent full.sent;
  placed = none_spare place_cmp (is_named place_cmp p.places.items) v.placed full.placed;
}
