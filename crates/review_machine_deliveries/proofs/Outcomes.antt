-- One answer to each command, unless a pattern nests too deep.
use Rattle.std.proofs.Common.{◌≡◌, ◌⊎◌, ℕ, List, [], ◌∷◌, Option, Some, None, true, false, ◌+◌, ◌||◌, ◌∙◌, sym, ap, inl, inr, refl, subst, ⊎_elim}
use Rattle.std.specs.Prelude.{nat_lt, not, MatchOption}
use Rattle.review_words.specs.History.{Entry, is_project, project_count}
use Rattle.review_words.specs.declared.command.Command.TheVariants.{PutProject, CloseEpoch, OnChange, Submit}
use Rattle.review_words.specs.declared.reply.Refusal.TheVariants.{BadFile, LabelNarrowed, Limit, NoParent, ParentDepth, ParentFixed}
use Rattle.review_file_rules.proofs.Together.{never_both, one_refusal}
use Rattle.review_file_rules.proofs.Trees.{covers_alike, inherit_alike, inherits_alike}
use Rattle.review_file_rules.specs.{Inherited.inherit, Inherited.inherits_unknown_label, Reading.IsBadValue}
use Rattle.review_core_rules.specs.Change.{Change, carried, copying, current, is_lost}
use Rattle.review_machine_rows.proofs.Common.{ChangeCommand, Command, Done, ExprTree, FileView, NewPatch, Nothing, Patch, Refusal, Refused, Reply, UnknownLabel, file_trees, most_depth, most_projects, option_map_or, voted}
use Rattle.review_machine_rows.proofs.Readings.{reading_of, IsToldDone, sent_or_done}
use Rattle.review_machine_rows.specs.Answer.{IsAnswerBy, IsAnswerAt, epoch_checks, IsOf, IsOutcome, IsRequestOutcome, IsUploadAnswer, file_checks, file_with, first_refusal, keeps_parent, puts_unknown_label, refused_by, refused_or}
use Rattle.review_machine_rows.specs.Changes.{Reading, change, depth, file_of, setting_of}
use Rattle.review_machine_rows.specs.{Desks.facts_of, Files.File, Files.covers, Files.HasDeepPattern}
use Rattle.review_machine_deliveries.proofs.{Bounds.one_count, Files.spelled_once}
use Rattle.review_machine_deliveries.proofs.Submits.{OneStanding, one_submit}
use Rattle.review_machine_deliveries.specs.Restart.{IsFree, RefusesBadValue, OneAnswer}
use Rattle.review_words.specs.declared.command.ChangeCommand.TheVariants as change_asked

module _ (reading : Reading) (h : List Entry) (f g : File) (trees : file_trees f ≡ file_trees g) where
  same_parent : f.parent ≡ g.parent
  same_parent = ap (λ (t : FileView ExprTree). t.parent) trees

  -- whether own requirements name unknown labels is one for files of the same trees
  same_unknown : puts_unknown_label reading h f ≡ puts_unknown_label reading h g
  same_unknown = by f.parent ∙ ap (λ o. option_map_or (λ parent. inherits_unknown_label (file_of reading h parent) g) o false) same_parent
    where
      by : (o : Option (List ℕ)) → option_map_or (λ parent. inherits_unknown_label (file_of reading h parent) f) o false ≡ option_map_or (λ parent. inherits_unknown_label (file_of reading h parent) g) o false
      by None = refl
      by (Some parent) = inherits_alike (file_of reading h parent) f g trees

  same_with : file_trees (file_with reading h f) ≡ file_trees (file_with reading h g)
  same_with = by f.parent ∙ ap (λ o. file_trees (option_map_or (λ parent. inherit (file_of reading h parent) g) o g)) same_parent
    where
      by : (o : Option (List ℕ)) → file_trees (option_map_or (λ parent. inherit (file_of reading h parent) f) o f) ≡ file_trees (option_map_or (λ parent. inherit (file_of reading h parent) g) o g)
      by None = trees
      by (Some parent) = inherit_alike (file_of reading h parent) f g trees

  -- a file is checked as one of the same trees
  same_checks : (project : List ℕ) → file_checks reading h project f ≡ file_checks reading h project g
  same_checks project =
      let old = file_of reading h project in
      let covered : covers old (file_with reading h f) ≡ covers old (file_with reading h g) = covers_alike old (file_with reading h f) (file_with reading h g) same_with in
      λ i.
      (keeps_parent h project (same_parent i), ParentFixed) ∷ (option_map_or (is_project h) (same_parent i) true, NoParent)
      ∷ (option_map_or (λ parent. nat_lt (depth h parent) most_depth) (same_parent i) true, ParentDepth) ∷ (not (same_unknown i), BadFile UnknownLabel)
      ∷ (not (is_project h project) || covered i, LabelNarrowed) ∷ (is_project h project || nat_lt (project_count h) most_projects, Limit) ∷ []

one_put : (reading : Reading) (h : List Entry) (caller : ℕ) (project text : List ℕ) (r s : Reply) → IsOutcome reading h caller (PutProject project text) r → IsOutcome reading h caller (PutProject project text) s →
    (r ≡ s) ⊎ (HasDeepPattern text × (RefusesBadValue r ⊎ RefusesBadValue s))
one_put reading h caller project text r s (inl f) (inl g) = by (one_refusal text f.0 g.0 f.1 g.1)
  where
    by : (f.0 ≡ g.0) ⊎ ((IsBadValue f.0 ⊎ IsBadValue g.0) × HasDeepPattern text) → (r ≡ s) ⊎ (HasDeepPattern text × (RefusesBadValue r ⊎ RefusesBadValue s))
    by (inl same) = inl (f.2 ∙ ap (λ x. Refused (BadFile x)) same ∙ sym g.2)
    by (inr (inl bad, deep)) = inr (deep, inl (subst RefusesBadValue (sym f.2) bad))
    by (inr (inr bad, deep)) = inr (deep, inr (subst RefusesBadValue (sym g.2) bad))
one_put reading h caller project text r s (inl f) (inr g) = absurd (never_both text g.0 f.0 g.1 f.1)
one_put reading h caller project text r s (inr f) (inl g) = absurd (never_both text f.0 g.0 f.1 g.1)
one_put reading h caller project text r s (inr f) (inr g) =
    inl (f.2 ∙ (ap (λ cs. refused_or (first_refusal cs) Nothing) (same_checks reading h f.0 g.0 (spelled_once text f.0 g.0 f.1 g.1) project) ∙ sym g.2))

-- one count of the votes that are copied, and one of those that are not
one_upload : (reading : Reading) (h : List Entry) (caller n : ℕ) (patch : NewPatch) (o : Option Change) (r s : Reply) →
    IsOf (λ c. IsUploadAnswer reading h caller n patch c r) o → IsOf (λ c. IsUploadAnswer reading h caller n patch c s) o → r ≡ s
one_upload reading h caller n patch None r s a b = absurd a
one_upload reading h caller n patch (Some c) r s a b =
    let k = copying (setting_of reading h c.project) (change_asked.Upload patch) caller c in
    let copied = one_count (λ l u. voted (carried k c l u)) a.copied b.copied a.many_copied b.many_copied in
    let outdated = one_count (λ l u. is_lost k c u l) a.outdated b.outdated a.many_outdated b.many_outdated in
    a.reply_is ∙ ((λ i. Done (Patch n (current c + 1) (copied i) (outdated i))) ∙ sym b.reply_is)

-- one answer to a request on a change
one_request : (reading : Reading) (h : List Entry) (caller n : ℕ) (command : ChangeCommand) (r s : Reply) → IsRequestOutcome reading h caller n command r → IsRequestOutcome reading h caller n command s → r ≡ s
one_request reading h caller n command r s a b = ⊎_elim
    (λ (sent : (patch : NewPatch) × (command ≡ change_asked.Upload patch)).
    one_upload reading h caller n sent.0 (change reading h n) r s (subst (λ x. IsRequestOutcome reading h caller n x r) sent.1 a) (subst (λ x. IsRequestOutcome reading h caller n x s) sent.1 b))
    (λ (done : IsToldDone command). done reading h caller n r a ∙ sym (done reading h caller n s b))
    (sent_or_done command)

one_outcome : OneStanding → (reading : Reading) (h : List Entry) (caller : ℕ) (command : Command) (r s : Reply) → IsOutcome reading h caller command r → IsOutcome reading h caller command s →
    (r ≡ s) ⊎ (IsFree command × (RefusesBadValue r ⊎ RefusesBadValue s))
one_outcome one reading h caller (PutProject project text) r s a b = one_put reading h caller project text r s a b
one_outcome one reading h caller (OnChange n command) r s a b = inl (one_request reading h caller n command r s a b)
one_outcome one reading h caller (Submit n) r s a b = inl (one_submit one reading h n (change reading h n) r s a b)
one_outcome one reading h caller _ r s a b = inl (a ∙ sym b)

-- one answer, by one reading
pub one_answer_by : OneStanding → (reading : Reading) (h : List Entry) (caller : ℕ) (command : Command) (r s : Reply) → IsAnswerBy reading h caller command r → IsAnswerBy reading h caller command s →
    (r ≡ s) ⊎ (IsFree command × (RefusesBadValue r ⊎ RefusesBadValue s))
one_answer_by one reading h caller command r s a b = at (refused_by reading h caller command) a b
  where
    at : (o : Option Refusal) → MatchOption o (IsOutcome reading h caller command r) (λ x. r ≡ Refused x) → MatchOption o (IsOutcome reading h caller command s) (λ x. s ≡ Refused x) →
        (r ≡ s) ⊎ (IsFree command × (RefusesBadValue r ⊎ RefusesBadValue s))
    at None a b = one_outcome one reading h caller command r s a b
    at (Some x) a b = inl (a ∙ sym b)

pub one_answer_in : OneStanding → (reading : Reading) (h : List Entry) (caller epoch : ℕ) (command : Command) (r s : Reply) → IsAnswerAt reading h caller epoch command r →
    IsAnswerAt reading h caller epoch command s → (r ≡ s) ⊎ (IsFree command × (RefusesBadValue r ⊎ RefusesBadValue s))
one_answer_in one reading h caller epoch (CloseEpoch least) r s a b = inl (at (refused_by reading h caller (CloseEpoch least)) (refused_or (first_refusal (epoch_checks (facts_of reading h) epoch least)) Nothing) a b)
  where
    at : (o : Option Refusal) (x : Reply) → MatchOption o (r ≡ x) (λ y. r ≡ Refused y) → MatchOption o (s ≡ x) (λ y. s ≡ Refused y) → r ≡ s
    at None x a b = a ∙ sym b
    at (Some y) x a b = a ∙ sym b
one_answer_in one reading h caller epoch command r s a b = one_answer_by one reading h caller command r s a b

pub one_answer : OneStanding → OneAnswer
one_answer one h caller epoch command r s history a b =
    let reading = reading_of h history in one_answer_in one reading.0 h caller epoch command r s (a reading.0 reading.1) (b reading.0 reading.1)
