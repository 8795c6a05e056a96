-- What a PutProject does by what rows know of the line of its project.
use Rattle.std.proofs.Common.{◌≡◌, ℕ, suc, arith, List, [], ◌∷◌, length, Option, Some, None, Result, Ok, Err, Bool, true, false, cond, not, ◌||◌, ◌∙◌, ◌⊎◌, refl, sym, ap, subst, inl, inr, ⊎_elim, MatchBool, is_some, nat_lt, IfErr, option_and_then}
use Rattle.review_words.specs.History.{Entry, is_account, is_admin, is_project, project_count}
use Rattle.review_words.specs.declared.{faults.FileFault.FileFault, reply.NotTaken.NotTaken as Cause}
use Rattle.review_words.specs.declared.reply.NotTaken.TheVariants.{Memory, Damaged, Pattern}
use Rattle.review_words.specs.declared.reply.Refusal.TheVariants.{BadFile, LabelNarrowed, Limit, NoParent, ParentDepth, ParentFixed}
use Rattle.review_file_rules.proofs.Trees.{covers_seen, inherits_above, inherit_trees}
use Rattle.review_file_rules.specs.Inherited.{IsEffective, inherit, inherits_unknown_label}
use Rattle.review_file_rules.specs.{Reading.IsReadFault, Reading.named_parent, declared.fault.ReadFault.ReadFault}
use Rattle.review_machine_rows.proofs.Asked.{line_asked}
use Rattle.review_machine_rows.proofs.Common.{AllByRecursion, AreEnough, HasNoEffect, IsDecided, Nothing, PutProject, Refusal, Refused, Reply, UnknownLabel, file_trees, most_projects, nat_tests, option_map_or}
use Rattle.review_machine_rows.proofs.Lined.{line_told, own_told, texts_told, there_is}
use Rattle.review_machine_rows.specs.Answer.{IsAnswerBy, file_checks, file_with, first_refusal, puts_unknown_label, refused_or, keeps_parent as keeps_parent_of}
use Rattle.review_machine_rows.specs.Changes.{Reading, depth, effective_of, file_of, own_of, texts_of}
use Rattle.review_machine_rows.specs.Decisions.{IsUndecided, IsUnread, SomePattern}
use Rattle.review_machine_rows.specs.Files.{File, IsRead, IsFileFault, covers}
use Rattle.review_machine_rows.specs.Lines.{line_of, most_depth, with_above}
use Rattle.review_machine_rows.specs.Steps.{HasFile, OfCommand, line_steps, own_in, parent_of, parent_or, texts_in, unknown}
use Rattle.review_machine_rows.specs.declared.rows.{Delta.Delta, Rows.Rows, StoredFile.StoredFile}
use Rattle.review_machine_laws.proofs.Checked.{asked_beside, lacks_project}
use Rattle.review_machine_laws.proofs.Histories.{same_name, parent_named, OneEffective, effective_is, line_read, same_file}
use Rattle.review_machine_laws.proofs.Told.{room_told}
use Rattle.review_machine_accounts.proofs.Decided.{empty_changes, file_decided, outcome_answer, project_refused, refused_decided}
use Rattle.review_machine_accounts.specs.Decisions.{IsEmpty}
use Rattle.review_machine_needs.specs.inner.Files.{IsFilePut, IsPut, IsPutBelow, IsReadCause, has_unknown, heir, heir_checks, keeps_parent, kept_checks, parent_checks, room_in, PutsFile}
use Rattle.review_machine_rows.specs.declared.rows.Counted.TheVariants as counted

-- a refusal changes nothing
pub refused_nothing : (r : Delta × Reply) (refusal : Refusal) → IsEmpty r.0 → r.1 ≡ Refused refusal → HasNoEffect r.1 r.0
refused_nothing r refusal e is = subst (λ reply. HasNoEffect reply r.0) (sym is) (empty_changes r.0 e)

-- ---- parents

parent_same : (was : Option StoredFile) (p named : Option (List ℕ)) → keeps_parent was p ≡ true → p ≡ named → parent_or named was ≡ p
parent_same None p named kept is = sym is
parent_same (Some f) p named kept is = same_name f.parent p kept

-- a project that is there has texts
some_texts : (o : Option StoredFile) (above : List ℕ → List (List ℕ)) → nat_lt 0 (length (with_above o above)) ≡ is_some o
some_texts None above = refl
some_texts (Some f) above = one_up (length (option_map_or above f.parent []))
  where
    one_up : (n : ℕ) → nat_lt 0 (suc n) ≡ true
    one_up n = grind (arith, nat_tests)

-- texts have a file just where the project is there
has_some : (o : Option StoredFile) (above : List ℕ → List (List ℕ)) (file : Option File) → HasFile (with_above o above) file → is_some o ≡ is_some file
has_some None above file has = sym (ap is_some has)
has_some (Some f) above file has = sym (ap is_some has.2)

covers_both : (old new was now : File) → file_trees old ≡ file_trees was → file_trees new ≡ file_trees now → covers old new ≡ covers was now
covers_both old new was now p q = sym (covers_seen old new) ∙ ((λ i. covers (p i) (q i)) ∙ covers_seen was now)

-- ---- checks that pass, or don't

-- a check is followed by the same, where it passes
under : {X : Type 0} (a b : Bool) (x y z : X) → a ≡ b → (a ≡ true → x ≡ y) → cond a x z ≡ cond b y z
under true b x y z is same = same refl ∙ ap (λ t. cond t y z) is
under false b x y z is same = ap (λ t. cond t y z) is

-- the checks of a parent refuse before the others, and where they pass the others decide
fails : (b c : Bool) (rest : Option Refusal) (r : Refusal) → first_refusal ((b, NoParent) ∷ (c, ParentDepth) ∷ []) ≡ Some r → cond b (cond c rest (Some ParentDepth)) (Some NoParent) ≡ Some r
fails true true rest r is = absurd (cc)
fails true false rest r is = is
fails false c rest r is = is

passes : (b c : Bool) (rest : Option Refusal) → first_refusal ((b, NoParent) ∷ (c, ParentDepth) ∷ []) ≡ None → cond b (cond c rest (Some ParentDepth)) (Some NoParent) ≡ rest
passes true true rest is = refl
passes true false rest is = absurd (cc)
passes false c rest is = absurd (cc)

-- the effective file of a parent, if there is one
IsParentFile : Reading → List Entry → Option (List ℕ) → Option File → Type 0
IsParentFile reading h None above = above ≡ None
IsParentFile reading h (Some q) above = (f : File) × (above ≡ Some f) × (file_trees f ≡ file_trees (file_of reading h q))

module _ (one : OneEffective) (reading : Reading) (h : List Entry) (caller : ℕ) (project text : List ℕ) (effective : Option File) (rows : Rows) (l : AreEnough reading h caller (OfCommand (PutProject project text)) effective rows) where
  own_is : own_in rows project ≡ own_of h project
  own_is = own_told reading h rows project l.agree (asked_beside h caller (PutProject project text) rows l).0

  steps_asked : AllByRecursion (λ s. unknown rows s ≡ []) (line_steps rows most_depth (parent_of rows (OfCommand (PutProject project text))))
  steps_asked = line_asked effective rows caller (OfCommand (PutProject project text)) l.nothing_left

  room_is : room_in rows ≡ nat_lt (project_count h) most_projects
  room_is = room_told reading h rows counted.Projects l.agree (asked_beside h caller (PutProject project text) rows l).1.0

  parent_asked : (p : Option (List ℕ)) → p ≡ named_parent text → keeps_parent (own_in rows project) p ≡ true → AllByRecursion (λ s. unknown rows s ≡ []) (line_steps rows most_depth p)
  parent_asked p named kept = subst (λ q. AllByRecursion (λ s. unknown rows s ≡ []) (line_steps rows most_depth q)) (parent_same (own_in rows project) p (named_parent text) kept named) steps_asked

  line_is : (p : Option (List ℕ)) → AllByRecursion (λ s. unknown rows s ≡ []) (line_steps rows most_depth p) → texts_in rows p ≡ option_map_or (texts_of h) p []
  line_is None asked = refl
  line_is (Some q) asked = line_told reading h rows l.agree most_depth q asked

  -- whether the parent is there, and how deep it is
  there_told : (p : Option (List ℕ)) → AllByRecursion (λ s. unknown rows s ≡ []) (line_steps rows most_depth p) → (not (is_some p) || nat_lt 0 (length (texts_in rows p))) ≡ option_map_or (is_project h) p true
  there_told None asked = refl
  there_told (Some q) asked = ap (λ ts. nat_lt 0 (length ts)) (line_is (Some q) asked) ∙ (some_texts (own_of h q) (line_of (own_of h) 7) ∙ sym (there_is h q))

  low_told : (p : Option (List ℕ)) → AllByRecursion (λ s. unknown rows s ≡ []) (line_steps rows most_depth p) → nat_lt (length (texts_in rows p)) most_depth ≡ option_map_or (λ q. nat_lt (depth h q) most_depth) p true
  low_told None asked = refl
  low_told (Some q) asked = ap (λ ts. nat_lt (length ts) most_depth) (line_is (Some q) asked)

  -- the parent's effective file
  above_told : (p : Option (List ℕ)) (above : Option File) → AllByRecursion (λ s. unknown rows s ≡ []) (line_steps rows most_depth p) → option_map_or (is_project h) p true ≡ true → HasFile (texts_in rows p) above → IsParentFile reading h p above
  unfolding IsParentFile
  above_told None above asked there has = has
  above_told (Some q) above asked there has = at above refl (subst (λ ts. HasFile ts above) (line_is (Some q) asked) has)
    where
      at : (o : Option File) → above ≡ o → HasFile (texts_of h q) o → (f : File) × (above ≡ Some f) × (file_trees f ≡ file_trees (file_of reading h q))
      at None is has = let bad : true ≡ false = sym there ∙ lacks_project h q has in absurd (cc)
      at (Some f) is has = (f, is, same_file one reading h q f l.reads has)

  unknown_told : (own : File) (above : Option File) (p : Option (List ℕ)) → own.parent ≡ p → IsParentFile reading h p above → has_unknown above own ≡ puts_unknown_label reading h own
  unfolding IsParentFile
  unknown_told own above None is none = ap (λ o. has_unknown o own) none ∙ sym (ap (λ p. option_map_or (λ parent. inherits_unknown_label (file_of reading h parent) own) p false) is)
  unknown_told own above (Some q) is f =
      ap (λ o. has_unknown o own) f.1 ∙ (inherits_above f.0 (file_of reading h q) own f.2 ∙ sym (ap (λ p. option_map_or (λ parent. inherits_unknown_label (file_of reading h parent) own) p false) is))

  heir_told : (own : File) (above : Option File) (p : Option (List ℕ)) → own.parent ≡ p → IsParentFile reading h p above → file_trees (heir above own) ≡ file_trees (file_with reading h own)
  unfolding IsParentFile
  heir_told own above None is none = ap (λ o. file_trees (heir o own)) none ∙ sym (ap (λ p. file_trees (option_map_or (λ parent. inherit (file_of reading h parent) own) p own)) is)
  heir_told own above (Some q) is f =
      ap (λ o. file_trees (heir o own)) f.1
      ∙ (inherit_trees f.0 own ∙ (ap (λ t. inherit t (file_trees own)) f.2 ∙ (sym (inherit_trees (file_of reading h q) own)
      ∙ sym (ap (λ p. file_trees (option_map_or (λ parent. inherit (file_of reading h parent) own) p own)) is))))

  -- the texts of the project
  project_told : (o : Option StoredFile) → own_of h project ≡ o → line_of (own_in rows) most_depth project ≡ texts_of h project
  project_told None is = ap (λ x. with_above x (line_of (own_in rows) 7)) (own_is ∙ is) ∙ sym (ap (λ x. with_above x (line_of (own_of h) 7)) is)
  project_told (Some f) is =
      let e : own_in rows project ≡ Some f = own_is ∙ is in
      texts_told reading h rows l.agree project (asked_beside h caller (PutProject project text) rows l).0
      (subst (λ q. AllByRecursion (λ s. unknown rows s ≡ []) (line_steps rows most_depth q)) (ap (parent_or (named_parent text)) e ∙ sym (ap (option_and_then (λ g. g.parent)) e)) steps_asked)

  had_is : HasFile (texts_of h project) effective
  had_is = subst (λ ts. HasFile ts effective) (project_told (own_of h project) refl) l.file_is

  had_there : is_project h project ≡ is_some effective
  had_there = there_is h project ∙ has_some (own_of h project) (line_of (own_of h) 7) effective had_is

  -- whether the new effective file keeps what the old one has
  covered_told : (new now : File) → file_trees new ≡ file_trees now → (not (is_project h project) || covers (file_of reading h project) now) ≡ option_map_or (λ f. covers f new) effective true
  covered_told new now same = ap (λ b. not b || covers (file_of reading h project) now) had_there ∙ at effective had_is
    where
      at : (o : Option File) → HasFile (texts_of h project) o → (not (is_some o) || covers (file_of reading h project) now) ≡ option_map_or (λ f. covers f new) o true
      at None has = refl
      at (Some f) has = sym (covers_both f new (file_of reading h project) now (same_file one reading h project f l.reads has) same)

  module _ (own : File) (right : IsRead text own) where
    named : own.parent ≡ named_parent text
    named = parent_named text own right

    keeps_is : keeps_parent (own_in rows project) own.parent ≡ keeps_parent_of h project own.parent
    keeps_is = ap (λ o. keeps_parent o own.parent) own_is

    -- what refuses the file, check by check
    fixed_told : keeps_parent (own_in rows project) own.parent ≡ false → first_refusal (file_checks reading h project own) ≡ Some ParentFixed
    fixed_told other = under (keeps_parent_of h project own.parent) false _ (Some ParentFixed) (Some ParentFixed) (sym keeps_is ∙ other) (λ kept. let bad : true ≡ false = sym kept ∙ (sym keeps_is ∙ other) in absurd (cc))

    heir_told_so : keeps_parent (own_in rows project) own.parent ≡ true → (above : Option File) → HasFile (texts_in rows own.parent) above →
        first_refusal (file_checks reading h project own) ≡ first_refusal (heir_checks (is_some own.parent) (length (texts_in rows own.parent)) above own effective (room_in rows))
    heir_told_so kept above has =
        let asked = parent_asked own.parent named kept in
        under (keeps_parent_of h project own.parent) true _ _ (Some ParentFixed) (sym keeps_is ∙ kept) (λ _. under _ _ _ _ (Some NoParent) (sym (there_told own.parent asked)) (λ there. under _ _ _ _ (Some ParentDepth) (sym (low_told own.parent asked)) (λ _.
        let parent = above_told own.parent above asked there has in
        under _ _ _ _ (Some (BadFile UnknownLabel)) (ap not (sym (unknown_told own above own.parent refl parent))) (λ _. under _ _ _ _ (Some LabelNarrowed) (covered_told (heir above own) (file_with reading h own) (heir_told own above own.parent refl parent))
        (λ _. (λ i. cond (had_there i || sym room_is i) None (Some Limit)))))))

    module _ (known : is_account h caller ≡ true) (admin : is_admin h caller ≡ true) where
      answered : (o : Option Refusal) → first_refusal (file_checks reading h project own) ≡ o → IsAnswerBy reading h caller (PutProject project text) (refused_or o Nothing)
      answered o is =
          outcome_answer reading h caller (PutProject project text) (refused_or o Nothing) (project_refused reading h caller project text true known admin) (inr (own, right, ap (λ x. refused_or x Nothing) (sym is)))

      filed : (delta : Delta) (reply : Reply) (o : Option Refusal) → first_refusal (file_checks reading h project own) ≡ o → IsFilePut o project (record { text = text; parent = own.parent }) delta reply →
          IsDecided reading h caller (PutProject project text) delta reply
      filed delta reply None is x =
          subst (IsDecided reading h caller (PutProject project text) delta) (sym x.0)
          (file_decided h caller project text delta (answered None is) (subst (λ p. PutsFile project (record { text = text; parent = p }) delta) named x.1))
      filed delta reply (Some r) is x =
          subst (IsDecided reading h caller (PutProject project text) delta) (sym x.0) (refused_decided h caller (PutProject project text) delta r x.1 (answered (Some r) is))

      -- a text that spells a file is put by its checks
      pub put_decided : (delta : Delta) (reply : Reply) → IsPut rows effective project (record { text = text; parent = own.parent }) own delta reply → IsDecided reading h caller (PutProject project text) delta reply
      put_decided delta reply put = at (keeps_parent (own_in rows project) own.parent) refl put
        where
          file : StoredFile
          file = record { text = text; parent = own.parent }

          at : (b : Bool) → keeps_parent (own_in rows project) own.parent ≡ b → MatchBool b (IsPutBelow rows effective project file own delta reply) (IsFilePut (Some ParentFixed) project file delta reply) →
              IsDecided reading h caller (PutProject project text) delta reply
          at true kept x = filed delta reply _ (heir_told_so kept x.0 x.1) x.2
          at false other x = filed delta reply (Some ParentFixed) (fixed_told other) x

  -- the texts of the parent's line spell a file
  pub parent_reads : (p : Option (List ℕ)) → p ≡ named_parent text → keeps_parent (own_in rows project) p ≡ true → (t : List ℕ) (ts : List (List ℕ)) → texts_in rows p ≡ t ∷ ts → (f : File) × IsEffective (t ∷ ts) f
  parent_reads None named kept t ts is = absurd (let none : [] ≡ t ∷ ts = is in cc)
  parent_reads (Some q) named kept t ts is =
      let same : texts_of h q ≡ t ∷ ts = sym (line_is (Some q) (parent_asked (Some q) named kept)) ∙ is in
      (effective_of reading (t ∷ ts), effective_is reading t ts (subst (AllByRecursion (λ x. IsRead x (reading x))) same (line_read reading h l.reads most_depth q)))

-- a text with a fault is refused with it
pub fault_decided : (reading : Reading) (h : List Entry) (caller : ℕ) (project text : List ℕ) (r : Delta × Reply) (fault : FileFault) → is_account h caller ≡ true → is_admin h caller ≡ true →
    IsEmpty r.0 → IsFileFault text fault → r.1 ≡ Refused (BadFile fault) → IsDecided reading h caller (PutProject project text) r.0 r.1
fault_decided reading h caller project text r fault known admin empty faulty is =
    subst (λ reply. IsDecided reading h caller (PutProject project text) r.0 reply) (sym is)
    (refused_decided h caller (PutProject project text) r.0 (BadFile fault) empty
    (outcome_answer reading h caller (PutProject project text) (Refused (BadFile fault)) (project_refused reading h caller project text true known admin) (inl (fault, faulty, refl))))

-- a file is put below the line of its parent, as that was read, or refused
module _ (rows : Rows) (effective : Option File) (project : List ℕ) (file : StoredFile) (own : File) (named : Bool) (deep : ℕ) (above : Option File)
    (some : named ≡ is_some file.parent) (many : deep ≡ length (texts_in rows file.parent)) (has : HasFile (texts_in rows file.parent) above) (delta : Delta) (reply : Reply) where
  below : (o : Option Refusal) → first_refusal (heir_checks named deep above own effective (room_in rows)) ≡ o → IsFilePut o project file delta reply → IsPutBelow rows effective project file own delta reply
  below o is put = (above, has, subst (λ x. IsFilePut x project file delta reply) (sym is ∙ (λ i. first_refusal (heir_checks (some i) (many i) above own effective (room_in rows)))) put)

  abbrev later : Option Refusal
  later = first_refusal ((not (has_unknown above own), BadFile UnknownLabel) ∷ kept_checks effective (room_in rows) (heir above own))

  -- for its parent
  pub below_parent : (r : Refusal) → first_refusal (parent_checks named deep) ≡ Some r → IsFilePut (Some r) project file delta reply → IsPutBelow rows effective project file own delta reply
  below_parent r is put = below (Some r) (fails (not named || nat_lt 0 deep) (nat_lt deep most_depth) later r is) put

  -- or by the checks that are left
  pub below_later : (o : Option Refusal) → first_refusal (parent_checks named deep) ≡ None → later ≡ o → IsFilePut o project file delta reply → IsPutBelow rows effective project file own delta reply
  below_later o good is put = below o (passes (not named || nat_lt 0 deep) (nat_lt deep most_depth) later good ∙ is) put

-- what is left where each label is known
pub known_labels : (above : Option File) (own line : File) (effective : Option File) (room : Bool) → has_unknown above own ≡ false → line ≡ heir above own →
    first_refusal ((not (has_unknown above own), BadFile UnknownLabel) ∷ kept_checks effective room (heir above own)) ≡ first_refusal (kept_checks effective room line)
known_labels above own line effective room known is = λ i. cond (not (known i)) (first_refusal (kept_checks effective room (sym is i))) (Some (BadFile UnknownLabel))

-- ---- why it is not decided

undecided : OneEffective → (caller : ℕ) (project text : List ℕ) (effective : Option File) (rows : Rows) (p : Option (List ℕ)) → p ≡ named_parent text → keeps_parent (own_in rows project) p ≡ true →
    (cause : Cause) → IsUnread (texts_in rows p) cause → IsUndecided caller (PutProject project text) effective rows cause
undecided one caller project text effective rows p spelled kept Memory is = tt
undecided one caller project text effective rows p spelled kept Pattern is = inr (subst (λ q. SomePattern (texts_in rows q)) (sym (parent_same (own_in rows project) p (named_parent text) kept spelled)) is)
undecided one caller project text effective rows p spelled kept Damaged is = λ reading h history l. by reading h l (texts_in rows p) refl is
  where
    by : (reading : Reading) (h : List Entry) → AreEnough reading h caller (OfCommand (PutProject project text)) effective rows → (texts : List (List ℕ)) → texts_in rows p ≡ texts → IsUnread texts Damaged → ⊥
    by reading h l [] same none = none
    by reading h l (t ∷ ts) same none = let read_so = parent_reads one reading h caller project text effective rows l p spelled kept t ts same in none read_so.0 read_so.1
undecided one caller project text effective rows p spelled kept _ is = absurd is

pub undecided_by : OneEffective → (caller : ℕ) (project text : List ℕ) (effective : Option File) (rows : Rows) (own : File) (result : Result (Delta × Reply) Cause) → IsRead text own →
    IfErr result (λ cause. (cause ≡ Memory) ⊎ ((keeps_parent (own_in rows project) own.parent ≡ true) × IsUnread (texts_in rows own.parent) cause)) → IfErr result (IsUndecided caller (PutProject project text) effective rows)
undecided_by one caller project text effective rows own (Ok r) right x = tt
undecided_by one caller project text effective rows own (Err e) right x =
    ⊎_elim (λ (memory : e ≡ Memory). subst (IsUndecided caller (PutProject project text) effective rows) (sym memory) tt)
    (λ (unread : (keeps_parent (own_in rows project) own.parent ≡ true) × IsUnread (texts_in rows own.parent) e). undecided one caller project text effective rows own.parent (parent_named text own right) unread.0 e unread.1) x

unreadable : (caller : ℕ) (project text : List ℕ) (effective : Option File) (rows : Rows) (fault : ReadFault) (cause : Cause) → IsReadFault text fault → IsReadCause fault cause → IsUndecided caller (PutProject project text) effective rows cause
unreadable caller project text effective rows fault Memory refused is = tt
unreadable caller project text effective rows fault Pattern refused is = inl (subst (IsReadFault text) is refused)
unreadable caller project text effective rows fault _ refused is = absurd is

pub unreadable_by : (caller : ℕ) (project text : List ℕ) (effective : Option File) (rows : Rows) (fault : ReadFault) (result : Result (Delta × Reply) Cause) →
    IsReadFault text fault → IfErr result (IsReadCause fault) → IfErr result (IsUndecided caller (PutProject project text) effective rows)
unreadable_by caller project text effective rows fault (Ok r) refused x = tt
unreadable_by caller project text effective rows fault (Err e) refused x = unreadable caller project text effective rows fault e refused x
