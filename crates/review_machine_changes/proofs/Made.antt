-- What a command on a change that is done makes of the rows.
use Rattle.std.proofs.Common.{ℕ, refl, sym, subst, nat_cmp, ◌≡◌, zero, suc, ◌+◌, ◌==◌, ◌≤◌, ◌<◌, List, [], ◌∷◌, ◌++◌, Option, Some, None, Bool, true, false, cond, ap, ◌∙◌, ⊎_elim, arith, is_some, nat_le, nat_lt, option_map, min, length, eqb-true}
use Rattle.review_names.specs.Forms.{is_within, most_changes, most_comments, most_patches}
use Rattle.review_table.specs.Rows.{NamesOnce, after_row_edit}
use Rattle.review_words.specs.History.{Entry, entry_of}
use Rattle.review_words.specs.declared.{changes.Review.Review as ReviewOf, command.ChangeCommand.ChangeCommand}
use Rattle.review_words.specs.declared.command.ChangeCommand.TheVariants.{Review as ReviewCommand, Upload as UploadCommand}
use Rattle.review_words.specs.declared.reply.Answer.TheVariants.{Patch, Reviewed}
use Rattle.review_core_rules.proofs.Stays.{within_from, within_next, within_parts}
use Rattle.review_core_rules.specs.Change.{Change, after_copying, after_plain, carried, copying, current, is_lost, said, after as change_after_request}
use Rattle.review_core_rules.specs.EditedChanges.{Makes, after_edits}
use Rattle.review_core_rules.specs.{Parts.Part, Parts.part_row, declared.edited_change.EditedChange.EditedChange}
use Rattle.review_machine_rows.proofs.Asked.{requests_are}
use Rattle.review_machine_rows.proofs.Common.{Answer, AreMany, ChangeRows, Command, Done, File, IsSound, NewPatch, OfCommand, OnChange, Refusal, Reply, cases_Bool, nat_tests, seen, voted}
use Rattle.review_machine_rows.specs.Answer.{first_refusal, IsAnswerBy, IsOf, IsUploadAnswer, comment_numbers, most_requests, numbers_after, refused_by}
use Rattle.review_machine_rows.specs.Changes.{Reading, change, setting_of}
use Rattle.review_machine_rows.specs.Decisions.{NamesChangesOnce, NamesEachOnce, NamesRowsOnce}
use Rattle.review_machine_rows.specs.Known.{part_of, known, number_of}
use Rattle.review_machine_rows.specs.Rows.{member_cmp, APart, edited, part_change, Key, PartKey, Count, Projects}
use Rattle.review_machine_rows.specs.View.{AreEnough, IsDecided, counted, fact, view}
use Rattle.review_machine_rows.specs.declared.rows.{ChangeEdit.ChangeEdit, Delta.Delta, Rows.Rows}
use Rattle.review_machine_change_rows.proofs.Edited.{after_mapped}
use Rattle.review_machine_accounts.proofs.Decided.{count_by, decided_by, outcome_answer, row_by}
use Rattle.review_machine_accounts.specs.Decisions.{EditsChanges, no_edits}
use Rattle.review_machine_changes.specs.Deltas.{MakesChange, next_request, setting_in}
use Rattle.review_machine_changes.specs.inner.Done.{next_numbers, IsReviewed, IsUploaded}
use Rattle.review_machine_rows.specs.declared.rows.Want.TheVariants as want

-- ==== what a command makes of a change, as an edit

-- what an edited change makes is sound
pub draft_sound : {rows : ChangeRows} {new : Change} {d : EditedChange} → Makes rows new d → IsSound (after_edits d)
draft_sound m = subst IsSound (sym m.made) m.sound

-- the delta of an edited change makes of the rows that it is over what it is said to make
pub made_of : {rows : ChangeRows} {new : Change} {d : EditedChange} (n : ℕ) (delta : Delta) → Makes rows new d → MakesChange n (seen d.rows.now) (after_edits d) delta → MakesChange n (seen rows) new delta
made_of {new = new} {d = d} n delta m made =
    subst (λ (x : ChangeRows). MakesChange n (seen x) new delta) m.over (subst (λ (y : Change). MakesChange n (seen d.rows.now) y delta) m.made made)

-- a delta of one edit names each key once, where the edit does
pub one_edit_once : (e : ChangeEdit) (delta : Delta) → EditsChanges (e ∷ []) delta → NamesRowsOnce e → NamesEachOnce delta
one_edit_once e delta m once = (
  subst (NamesOnce nat_cmp) (sym m.accounts) tt,
  subst (NamesOnce member_cmp) (sym m.members) tt,
  subst NamesChangesOnce (sym m.changes) (refl, once, tt),
)

-- ==== what a command on a change makes of the rows

pub first_within : is_within most_patches 1 ≡ true
unfolding is_within
first_within = refl

-- the numbers of an answer to a new change
pub stored_numbers : (number last patch : ℕ) → number ≡ last + 1 → is_within most_changes (last + 1) ≡ true → patch ≡ 1 → (1 ≤ number) × (number ≤ most_changes) × (1 ≤ patch) × (patch ≤ most_patches)
stored_numbers number last patch n within p = let w = within_parts most_changes (last + 1) within in (omega arith, omega arith, omega arith, omega arith)

pub change_within : (n : ℕ) → nat_lt n most_changes ≡ true → is_within most_changes (n + 1) ≡ true
change_within n below = within_next n most_changes below

-- an edit turns the rows of its change and no others
pub edit_turns : (e : ChangeEdit) (n : ℕ) (part : Part) (before : Option Change) (new : Change) (b : Bool) → (e.change == n) ≡ b →
    (b ≡ true → after_row_edit (part_change e part) (part_of before part) ≡ part_row new part) →
    option_map APart (part_of (cond b (Some new) before) part) ≡ after_row_edit (option_map (option_map APart) (edited (e ∷ []) n part)) (option_map APart (part_of before part))
edit_turns e n part before new true is turns =
    ap (option_map APart) (sym (turns refl))
    ∙ (sym (after_mapped APart (part_change e part) (part_of before part))
    ∙ ap (λ b. after_row_edit (option_map (option_map APart) (cond b (part_change e part) None)) (option_map APart (part_of before part))) (sym is))
edit_turns e n part before new false is turns =
    ap (λ b. after_row_edit (option_map (option_map APart) (cond b (part_change e part) None)) (option_map APart (part_of before part))) (sym is)

pub up_to : (most n : ℕ) → 1 ≤ n → nat_le n most ≡ is_within most n
unfolding is_within
up_to most n some = grind (arith, nat_tests)

-- a number within a greatest one is within itself
pub within_itself : (most n : ℕ) → is_within most n ≡ true → is_within n n ≡ true
within_itself most n within = let w = within_parts most n within in within_from n n w.0 (omega arith)

-- what refuses first refuses before what follows
pub first_of : (xs ys : List (Bool × Refusal)) (v : Option Refusal) (b : Bool) (otherwise : Option Refusal) → b ≡ true → v ≡ first_refusal xs → is_some v ≡ true → v ≡ cond b (first_refusal (xs ++ ys)) otherwise
first_of xs ys v b otherwise passes is some = is ∙ (before xs ys (sym (ap is_some is) ∙ some) ∙ sym (ap (λ t. cond t (first_refusal (xs ++ ys)) otherwise) passes))
  where
    before : (xs ys : List (Bool × Refusal)) → is_some (first_refusal xs) ≡ true → first_refusal xs ≡ first_refusal (xs ++ ys)
    before [] ys some = absurd (cc)
    before (c ∷ cs) ys some = ⊎_elim
        (λ (t : c.0 ≡ true).
        ap (λ k. cond k (first_refusal cs) (Some c.1)) t ∙ (before cs ys (sym (ap (λ k. is_some (cond k (first_refusal cs) (Some c.1))) t) ∙ some)
        ∙ sym (ap (λ k. cond k (first_refusal (cs ++ ys)) (Some c.1)) t)))
        (λ (f : c.0 ≡ false). ap (λ k. cond k (first_refusal cs) (Some c.1)) f ∙ sym (ap (λ k. cond k (first_refusal (cs ++ ys)) (Some c.1)) f))
        (cases_Bool c.0)

-- one number more
pub numbers_more : (n k : ℕ) → next_numbers n (k + 1) ≡ next_numbers n k ++ (n + k + 1) ∷ []
numbers_more n k = let e : k + 1 ≡ suc k = omega arith in ap (next_numbers n) e ∙ by n k
  where
    by : (n k : ℕ) → next_numbers n (suc k) ≡ next_numbers n k ++ (n + k + 1) ∷ []
    by n zero = let e : n + 1 ≡ n + 0 + 1 = omega arith in ap (λ x. x ∷ []) e
    by n (suc k) = let e : (n + 1) + k + 1 ≡ n + suc k + 1 = omega arith in ap (λ l. (n + 1) ∷ l) (by (n + 1) k ∙ ap (λ x. next_numbers (n + 1) k ++ x ∷ []) e)

pub number_within : (stored count index : ℕ) → stored + count ≤ most_comments → index < count → is_within most_comments (stored + index + 1) ≡ true
number_within stored count index room below = within_from most_comments (stored + index + 1) (omega arith) (omega arith)

-- a number of a patch set is no great one
pub next_below : (n : ℕ) → is_within most_patches (n + 1) ≡ true → n + 1 < 1001
next_below n within = let w = within_parts most_patches (n + 1) within in omega arith

-- ==== a command on a change that is done

-- numbers after one are so many next ones
numbers_next : {X : Type 0} (n : ℕ) (xs : List X) → numbers_after n xs ≡ next_numbers n (length xs)
numbers_next n [] = refl
numbers_next n (x ∷ xs) = ap (λ l. (n + 1) ∷ l) (numbers_next (n + 1) xs)

-- the number of the request
pub request_is : (reading : Reading) (h : List Entry) (caller : ℕ) (command : Command) (effective : Option File) (rows : Rows) → length h < most_requests → AreEnough reading h caller (OfCommand command) effective rows →
    next_request rows ≡ length h + 1
request_is reading h caller command effective rows room l =
    let many : number_of (known rows want.Requests) ≡ length h = requests_are (view reading h) effective rows caller command l.agree l.nothing_left in
    let least : min (length h + 1) 18446744073709551615 ≡ length h + 1 = omega arith in
    ap (λ k. min (k + 1) 18446744073709551615) many ∙ least

-- the change of a number is there where it is looked for
here : (reading : Reading) (h : List Entry) (n k : ℕ) (c : Change) → change reading h n ≡ Some c → (n == k) ≡ true → change reading h k ≡ Some c
here reading h n k c told t = ap (change reading h) (sym (eqb-true n k t)) ∙ told

-- the change of a number becomes another, where it is there
put_at : (f : Change → Change) (c : Change) (o : Option Change) (b : Bool) → (b ≡ true → o ≡ Some c) → cond b (option_map f o) o ≡ cond b (Some (f c)) o
put_at f c o true is = ap (option_map f) (is refl)
put_at f c o false is = refl

-- a request that makes of a change what the history says is decided
pub request_decided : (reading : Reading) (h : List Entry) (caller n : ℕ) (request : ChangeCommand) (a : Answer) (c : Change) (delta : Delta) → change reading h n ≡ Some c →
    MakesChange n c (change_after_request (setting_of reading h c.project) request caller (length h + 1) c) delta → IsAnswerBy reading h caller (OnChange n request) (Done a) → IsDecided reading h caller (OnChange n request) delta (Done a)
request_decided reading h caller n request a c delta told made answer = decided_by h caller (OnChange n request) a made.edits answer rows counts
  where
    rows : (k : Key) → fact reading (entry_of caller 0 [] (OnChange n request) (Done a) ∷ h) k ≡ row_by (record no_edits { changes = made.edit ∷ [] }) k (fact reading h k)
    rows (PartKey k part) =
        ap (λ o. option_map APart (part_of o part))
        (put_at (λ x. change_after_request (setting_of reading h x.project) request caller (length h + 1) x) c (change reading h k) (n == k) (here reading h n k c told))
        ∙ edit_turns made.edit k part (change reading h k) (change_after_request (setting_of reading h c.project) request caller (length h + 1) c) (n == k) (ap (λ x. x == k) made.named)
        (λ t. ap (λ o. after_row_edit (part_change made.edit part) (part_of o part)) (here reading h n k c told t) ∙ made.becomes part)
    rows _ = refl

    counts : (k : Count) → counted (entry_of caller 0 [] (OnChange n request) (Done a) ∷ h) k ≡ count_by (record no_edits { changes = made.edit ∷ [] }) (fact reading h) k (counted h k)
    counts Projects = refl
    counts _ = refl

-- the review is done
pub review_decided : (reading : Reading) (h : List Entry) (caller n : ℕ) (r : ReviewOf) (rows : Rows) (c : Change) (delta : Delta) (reply : Reply) → refused_by reading h caller (OnChange n (ReviewCommand r)) ≡ None →
    change reading h n ≡ Some c → next_request rows ≡ length h + 1 → IsReviewed n r caller rows c delta reply → IsDecided reading h caller (OnChange n (ReviewCommand r)) delta reply
review_decided reading h caller n r rows c delta reply passes told request m =
    subst (λ x. IsDecided reading h caller (OnChange n (ReviewCommand r)) delta x) (sym m.reply_is)
    (request_decided reading h caller n (ReviewCommand r) (Reviewed numbers) c delta told
    (subst (λ q. MakesChange n c (after_plain (ReviewCommand r) caller q c) delta) request m.made)
    (outcome_answer reading h caller (OnChange n (ReviewCommand r)) (Done (Reviewed numbers)) passes (ap (λ l. Done (Reviewed l)) same_numbers)))
  where
    numbers : List ℕ
    numbers = next_numbers (length c.comments) (length (said r))

    same_numbers : next_numbers (length c.comments) (length (said r)) ≡ comment_numbers r (change reading h n)
    same_numbers = sym (numbers_next (length c.comments) (said r)) ∙ ap (comment_numbers r) (sym told)

-- the new patch set is done, where the votes are copied that the history says
pub upload_decided : (reading : Reading) (h : List Entry) (caller n : ℕ) (p : NewPatch) (f : File) (rows : Rows) (c : Change) (delta : Delta) (reply : Reply) → refused_by reading h caller (OnChange n (UploadCommand p)) ≡ None →
    change reading h n ≡ Some c → next_request rows ≡ length h + 1 →
    copying (setting_in f rows) (UploadCommand p) caller c ≡ copying (setting_of reading h c.project) (UploadCommand p) caller c → IsUploaded f n p caller rows c delta reply →
    IsDecided reading h caller (OnChange n (UploadCommand p)) delta reply
upload_decided reading h caller n p f rows c delta reply passes told request copies m =
    subst (λ x. IsDecided reading h caller (OnChange n (UploadCommand p)) delta x) (sym m.reply_is)
    (request_decided reading h caller n (UploadCommand p) sent c delta told
    (subst (λ k. MakesChange n c (after_copying k (UploadCommand p) caller (length h + 1) c) delta) copies
    (subst (λ q. MakesChange n c (after_copying (copying (setting_in f rows) (UploadCommand p) caller c) (UploadCommand p) caller q c) delta) request m.made))
    (outcome_answer reading h caller (OnChange n (UploadCommand p)) (Done sent) passes (subst (IsOf (λ x. IsUploadAnswer reading h caller n p x (Done sent))) (sym told) answer)))
  where
    sent : Answer
    sent = Patch n (current c + 1) m.copied m.outdated

    answer : IsUploadAnswer reading h caller n p c (Done (Patch n (current c + 1) m.copied m.outdated))
    answer = record {
      copied = m.copied;
      outdated = m.outdated;
      many_copied = subst (λ k. AreMany (λ l u. voted (carried k c l u)) m.copied) copies m.many_copied;
      many_outdated = subst (λ k. AreMany (λ l u. is_lost k c u l) m.outdated) copies m.many_outdated;
      reply_is = refl;
    }
