-- A new change that is made, and a command on a change that isn't decided.
use Rattle.std.proofs.Common.{◌≡◌, ℕ, List, [], ◌∷◌, Some, refl, sym, ap, ◌∙◌, ◌+◌, ◌==◌, length, Option, None, true, false, subst, eqb-true, arith, is_some, nat_lt, ◌⊎◌, ⊎_elim, IfErr, Result, IsErr, IsErrAnd}
use Rattle.{std.proofs.lemmas.Result.err_from_is_err_and, review_table.specs.Rows.after_row_edit}
use Rattle.review_words.specs.History.{Entry, entry_of}
use Rattle.review_words.specs.declared.command.Command.TheVariants.{CreateChange, OnChange}
use Rattle.review_words.specs.declared.reply.NotTaken.{NotTaken as Cause, TheVariants.Damaged, TheVariants.Memory}
use Rattle.review_machine_rows.proofs.Common.{Change, ChangeCommand, Done, File, IsSound, IsUndecided, NewChange, Part, begun, most_changes, nat_tests, part_row}
use Rattle.review_machine_rows.specs.Answer.{IsHistory, checks, first_refusal, refused_by}
use Rattle.review_machine_rows.specs.Changes.{Reading, Reads, change, change_count}
use Rattle.review_machine_rows.specs.{Desks.facts_by, Known.change_in, Known.known, Known.number_of, Known.part_of}
use Rattle.review_machine_rows.specs.Rows.{Key, PartKey, Count, Projects, part_change}
use Rattle.review_machine_rows.specs.{Steps.OfCommand, View.AreEnough, View.IsDecided, View.counted, View.fact}
use Rattle.review_machine_rows.specs.declared.rows.{ChangeEdit.ChangeEdit, Delta.Delta, Rows.Rows}
use Rattle.review_machine_laws.proofs.Changes.{all_pass, change_there, is_up_to}
use Rattle.review_machine_laws.proofs.{Checked.asked_beside, Told.change_told}
use Rattle.review_machine_accounts.proofs.Decided.{count_by, decided_by, outcome_answer, row_by}
use Rattle.review_machine_accounts.specs.Decisions.{EditsChanges, no_edits}
use Rattle.review_machine_changes.proofs.Made.{edit_turns}
use Rattle.review_words.specs.declared.reply.Answer.TheVariants as made
use Rattle.review_machine_rows.specs.declared.rows.Want.TheVariants as want

-- ==== a new change

-- where no check refuses, there is a number left
pub number_left : (effective : Option File) (rows : Rows) (caller : ℕ) (new : NewChange) → first_refusal (checks (facts_by rows effective) caller (CreateChange new)) ≡ None →
    nat_lt (number_of (known rows want.LastChange)) most_changes ≡ true
number_left effective rows caller new passes = (all_pass (checks (facts_by rows effective) caller (CreateChange new)) passes).1.1.1.1.1.0

-- the number after the last is none's yet
none_yet : (reading : Reading) (h : List Entry) → change reading h (change_count h + 1) ≡ None
none_yet reading h = at (change reading h (change_count h + 1)) (change_there reading h (change_count h + 1) ∙ beyond (change_count h))
  where
    beyond : (n : ℕ) → is_up_to n (n + 1) ≡ false
    beyond n = grind (arith, nat_tests)

    at : (o : Option Change) → is_some o ≡ false → o ≡ None
    at None e = refl
    at (Some c) e = absurd (cc)

-- the change is made
pub create_decided : (reading : Reading) (h : List Entry) (caller : ℕ) (new : NewChange) (number patch : ℕ) (c : Change) (e : ChangeEdit) (delta : Delta) → refused_by reading h caller (CreateChange new) ≡ None →
    number ≡ change_count h + 1 → patch ≡ 1 → c ≡ begun new caller (length h + 1) → e.change ≡ number → ((part : Part) → after_row_edit (part_change e part) None ≡ part_row c part) → EditsChanges (e ∷ []) delta →
    IsDecided reading h caller (CreateChange new) delta (Done (made.Change number patch))
create_decided reading h caller new number patch c e delta passes n p made_is of turns edits =
    decided_by h caller (CreateChange new) (made.Change number patch) edits (outcome_answer reading h caller (CreateChange new) (Done (made.Change number patch)) passes (λ i. Done (made.Change (n i) (p i)))) rows counts
  where
    rows : (k : Key) → fact reading (entry_of caller 0 [] (CreateChange new) (Done (made.Change number patch)) ∷ h) k ≡ row_by (record no_edits { changes = e ∷ [] }) k (fact reading h k)
    rows (PartKey m part) =
        edit_turns e m part (change reading h m) (begun new caller (length h + 1)) (change_count h + 1 == m) (ap (λ x. x == m) (of ∙ n))
        (λ t. ap (λ o. after_row_edit (part_change e part) (part_of o part)) (ap (change reading h) (sym (eqb-true (change_count h + 1) m t)) ∙ none_yet reading h)
        ∙ (turns part ∙ ap (λ x. part_row x part) made_is))
    rows _ = refl

    counts : (k : Count) → counted (entry_of caller 0 [] (CreateChange new) (Done (made.Change number patch)) ∷ h) k ≡ count_by (record no_edits { changes = e ∷ [] }) (fact reading h) k (counted h k)
    counts Projects = refl
    counts _ = refl

-- ==== a command on a change that isn't decided

-- every change of a history is sound
abbrev pub ChangesAreSound : Type 0
ChangesAreSound = (reading : Reading) (h : List Entry) (n : ℕ) (c : Change) → IsHistory h → Reads reading h → change reading h n ≡ Some c → IsSound c

-- an error that is known
pub err_with : {T : Type 0} (P : Cause → Type 0) (r : Result T Cause) (e : Cause) → IsErr r × IsErrAnd r (λ d. d ≡ e) → P e → IfErr r P
err_with P r e is p = let q = err_from_is_err_and r is.1 in subst (λ x. IfErr x P) (sym q.1) (subst P (sym q.2) p)

-- the change that rows know is that of the history
pub change_is : (reading : Reading) (h : List Entry) (caller n : ℕ) (request : ChangeCommand) (effective : Option File) (rows : Rows) (c : Change) →
    change_in (known rows (want.Change n)) ≡ Some c → AreEnough reading h caller (OfCommand (OnChange n request)) effective rows → change reading h n ≡ Some c
change_is reading h caller n request effective rows c found l = sym (change_told reading h rows n l.agree (asked_beside h caller (OnChange n request) rows l).0) ∙ found

-- no rows of a history show a change that isn't sound
pub unsound_undecided : ChangesAreSound → (caller n : ℕ) (request : ChangeCommand) (effective : Option File) (rows : Rows) (c : Change) (e : Cause) → change_in (known rows (want.Change n)) ≡ Some c →
    (e ≡ Memory) ⊎ ((e ≡ Damaged) × (IsSound c → ⊥)) → IsUndecided caller (OnChange n request) effective rows e
unsound_undecided law caller n request effective rows c e found =
    ⊎_elim (λ m. subst (λ x. IsUndecided caller (OnChange n request) effective rows x) (sym m) tt)
    (λ d. subst (λ x. IsUndecided caller (OnChange n request) effective rows x) (sym d.0)
    (λ reading h history l. d.1 (law reading h n c history l.reads (change_is reading h caller n request effective rows c found l))))
