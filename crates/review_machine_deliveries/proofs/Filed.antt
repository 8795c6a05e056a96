-- Effective files, as they are gathered row by row.
use Rattle.std.proofs.Common.{◌≡◌, inl, inr, ⊎_elim, ℕ, ◌<◌, List, [], ◌∷◌, Option, Some, None, true, refl, sym, ap, ◌∙◌, subst, All, is_some, ◌++◌, zero, suc, Bool, false, cond, Result, Ok, Err, option_and_then, option_map, IfErr, IsErr, IsErrAnd}
use Rattle.std.proofs.lemmas.List.Elements.{All-contains}
use Rattle.review_words.specs.declared.command.Command.TheVariants.{CreateAccount, PutGroup, PutProject, RecordBase, CloseEpoch, CreateChange, OnChange, Submit}
use Rattle.review_words.specs.declared.reply.NotTaken.{NotTaken as Cause}
use Rattle.review_words.specs.declared.reply.NotTaken.TheVariants.{Memory, Store, Damaged, Pattern, Full}
use Rattle.review_machine_rows.proofs.Asked.{none_in, all_made, asking_lowers, asks_first, each_known, line_asked, IsUnknown, next_unmade}
use Rattle.review_machine_rows.proofs.Common.{APart, All-from_recursion, AllByRecursion, Change, Command, Entry, File, IsEffective, Tables, is_project, named_parent, option_map_or, view}
use Rattle.review_machine_rows.proofs.Lined.{fewer, own_told, texts_told, there_is}
use Rattle.review_machine_rows.proofs.Readings.{reading_of}
use Rattle.review_machine_rows.specs.Changes.{Reading, change, effective_of, texts_of}
use Rattle.review_machine_rows.specs.Decisions.{HasPatternIn, IsUnread, SomePattern, judging_project, topic_project}
use Rattle.review_machine_rows.specs.Known.{Found, known, IsKnown, Agrees, AgreesBeside, AreAsked, StaysKnown, AChange, part_of, change_in, file_in}
use Rattle.review_machine_rows.specs.Lines.{most_depth, line_of, with_above}
use Rattle.review_machine_rows.specs.Shelf.{Shows, LeavesBy, cause_of, IsDamaged}
use Rattle.review_machine_rows.specs.Steps.{HasComeTo, Topic, change_wants, file_wants, first_wants, left, line_steps, next, next_of, or_next, parent_of, unknown, unless_none, wants_in, OfCommand, OfQuery, HasFile, asks_file, line_wants, needs_file, own_in, known_parent, parent_or, project_for, project_of, texts_for, texts_in}
use Rattle.review_machine_rows.specs.declared.rows.{Need.Need, Rows.Rows, StoredFile.StoredFile, Want.Want}
use Rattle.review_machine_rows.specs.declared.shelf.ShelfFault.{ShelfFault}
use Rattle.review_machine_laws.proofs.{Histories.effective_is, Histories.line_read, Rows.rows_tell}
use Rattle.review_machine_deliveries.proofs.{Files.AreReadRight, Histories.view_of}
use Rattle.review_machine_deliveries.specs.Gathered.{IsSoFar, IsJudgedByPattern, IsUngathered}
use Rattle.review_machine_rows.specs.declared.step.Step.TheVariants as step
use Rattle.review_words.specs.declared.command.Query.TheVariants as asked
use Rattle.review_machine_rows.specs.declared.rows.Want.TheVariants as want

-- ==== rows that are gathered step by step

-- a step that loads what is asked next leaves less to ask
pub step_lowers : (file : Option File) (rows more : Rows) (caller : ℕ) (topic : Topic) (ws : List Want) → Some ws ≡ unless_none (next file rows caller topic) → All (IsKnown more) ws →
    StaysKnown rows more → left file more caller topic < left file rows caller topic
step_lowers file rows more caller topic ws is all stays = at (next file rows caller topic) refl is
  where
    at : (asked : List Want) → next file rows caller topic ≡ asked → Some ws ≡ unless_none asked → left file more caller topic < left file rows caller topic
    at [] here is = absurd (cc)
    at (w ∷ vs) here is =
        let same : ws ≡ w ∷ vs = cc in
        asking_lowers file rows more caller topic w vs here (subst (All (IsKnown more)) same all) stays

-- and what was known stays
pub step_stays : (file : Option File) (rows more : Rows) (caller : ℕ) (topic : Topic) (ws : List Want) → Some ws ≡ unless_none (next file rows caller topic) → AreAsked ws rows more → StaysKnown rows more
step_stays file rows more caller topic ws is asked = λ w there.
    ⊎_elim (λ same. same) (λ within. absurd (All-contains (IsUnknown rows) ws w unasked within there)) (asked.others w)
  where
    at : (ns : List Want) → AllByRecursion (IsUnknown rows) ns → Some ws ≡ unless_none ns → AllByRecursion (IsUnknown rows) ws
    at [] all is = absurd (cc)
    at (v ∷ vs) all is = let same : ws ≡ v ∷ vs = cc in subst (AllByRecursion (IsUnknown rows)) (sym same) all

    unasked : All (IsUnknown rows) ws
    unasked = All-from_recursion (IsUnknown rows) ws (at (next file rows caller topic) (next_unmade rows file caller topic) is)

-- where nothing is asked, nothing is left
pub none_asked : (file : Option File) (rows : Rows) (caller : ℕ) (topic : Topic) (need : Option Need) → need ≡ None → wants_in need ≡ unless_none (next file rows caller topic) →
    next file rows caller topic ≡ []
none_asked file rows caller topic need none is = at (next file rows caller topic) (ap wants_in (sym none) ∙ is)
  where
    at : (asked : List Want) → None ≡ unless_none asked → asked ≡ []
    at [] is = refl
    at (w ∷ ws) is = absurd (cc)

-- what is known then is so, where it was so before and what was looked up is
pub so_far_asked : (tables : Option Tables) (rows more : Rows) → IsSoFar tables rows → Shows tables (λ t. AgreesBeside t rows more) → IsSoFar tables more
so_far_asked None rows more so found = absurd found
so_far_asked (Some t) rows more (inl nothing) found = inr (λ w f is. ⊎_elim (λ was. let e : None ≡ Some f = sym (nothing w) ∙ was in absurd (cc)) (λ so. so) (found w f is))
so_far_asked (Some t) rows more (inr agree) found = inr (λ w f is. ⊎_elim (λ was. agree w f was) (λ so. so) (found w f is))

-- once nothing is left to ask, the rows agree with the tables
pub so_far_shown : (tables : Option Tables) (file : Option File) (rows : Rows) (caller : ℕ) (topic : Topic) → IsSoFar tables rows → next file rows caller topic ≡ [] → Shows tables (λ t. Agrees t rows)
so_far_shown tables file rows caller topic (inl nothing) left = absurd (asks_first file rows caller topic nothing left)
so_far_shown tables file rows caller topic (inr agree) left = agree

-- what the first rows know stays
pub stays_known : (first rows more : Rows) → StaysKnown first rows → StaysKnown rows more → StaysKnown first more
stays_known first rows more stays later w there = later w (ap is_some (stays w there) ∙ there) ∙ stays w there

-- a fault leaves or blames the tables that stood before
pub left_before : (f : ShelfFault) (old mid new : Option Tables) → mid ≡ old → LeavesBy (cause_of f) mid new → LeavesBy (cause_of f) old new
left_before f old mid new same leaves = subst (λ (t : Option Tables). LeavesBy (cause_of f) t new) same leaves

front_made : (rows : Rows) (xs ys : List (List Want)) → next_of rows (xs ++ ys) ≡ [] → next_of rows xs ≡ []
front_made rows [] ys none = refl
front_made rows (x ∷ xs) ys none =
    let p = none_in (unknown rows x) (next_of rows (xs ++ ys)) none in
    ap (λ l. or_next l (next_of rows xs)) p.0 ∙ front_made rows xs ys p.1

-- where nothing is left to ask without the file, asking has come to what is asked by a file
pub come_to_file : (file : Option File) (rows : Rows) (caller : ℕ) (topic : Topic) → next None rows caller topic ≡ [] → HasComeTo file rows caller topic step.ByFile
come_to_file file rows caller topic none =
    let line = line_steps rows most_depth (parent_of rows topic) in
    let last = file_wants None caller topic ∷ [] in
    let p = none_in (unknown rows (first_wants caller topic)) (next_of rows (change_wants rows topic ∷ (line ++ last))) ((all_made None rows caller topic none).0) in
    let q = none_in (unknown rows (change_wants rows topic)) (next_of rows (line ++ last)) p.1 in
    (p.0, q.0, front_made rows line last q.1)

-- ==== the effective file by which a command is judged or a question answered, as it is gathered

-- a file that is found was looked for
file_known : (o : Option Found) (f : StoredFile) → file_in o ≡ Some f → is_some o ≡ true
file_known None f is = absurd (cc)
file_known (Some x) f is = refl

-- a change that is found
change_found : (o : Option Found) (c : Change) → change_in o ≡ Some c → o ≡ Some (AChange (Some c))
change_found (Some (AChange found)) c is = ap (λ x. Some (AChange x)) is
change_found _ c is = absurd (cc)

-- the change that rows know is that of the history
change_known : (reading : Reading) (h : List Entry) (rows : Rows) (n : ℕ) (c : Change) → Agrees (view reading h) rows → change_in (known rows (want.Change n)) ≡ Some c → change reading h n ≡ Some c
change_known reading h rows n c agree is =
    let found = agree (want.Change n) (AChange (Some c)) (change_found (known rows (want.Change n)) c is) in
    let same : found.0 ≡ Some c = let e : AChange (Some c) ≡ AChange found.0 = found.1 in cc in
    rows_tell (change reading h n) (Some c) (λ part. found.2 part ∙ ap (λ x. option_map APart (part_of x part)) same)

-- a project by the change that has it
of_project : (o : Option Change) (project : List ℕ) → option_map (λ c. c.project) o ≡ Some project → (c : Change) × (o ≡ Some c) × (c.project ≡ project)
of_project None project is = absurd (cc)
of_project (Some c) project is = let same : c.project ≡ project = cc in (c, refl, same)

judged_by_change : (needed : Bool) (reading : Reading) (h : List Entry) (rows : Rows) (n : ℕ) (project : List ℕ) → Agrees (view reading h) rows →
    project_for needed (change_in (known rows (want.Change n))) ≡ Some project → project_for needed (change reading h n) ≡ Some project
judged_by_change false reading h rows n project agree is = absurd (cc)
judged_by_change true reading h rows n project agree is =
    let of = of_project (change_in (known rows (want.Change n))) project is in
    ap (option_map (λ (c : Change). c.project)) (change_known reading h rows n of.0 agree of.1) ∙ ap Some of.2

-- a project that is there is that by whose file the command is judged, where rows know it as such
judged_by : (reading : Reading) (h : List Entry) (rows : Rows) (command : Command) (project : List ℕ) → Agrees (view reading h) rows → is_project h project ≡ true →
    project_of rows (OfCommand command) ≡ Some project → judging_project reading h command ≡ Some project
judged_by reading h rows (PutProject given text) project agree there is =
    let same : given ≡ project = cc in
    let here : is_project h given ≡ true = ap (is_project h) same ∙ there in
    ap (λ b. cond b (Some given) (named_parent text)) here ∙ is
judged_by reading h rows (CreateChange new) project agree there is = is
judged_by reading h rows (OnChange n command) project agree there is = judged_by_change (needs_file command) reading h rows n project agree is
judged_by reading h rows (Submit n) project agree there is = judged_by_change true reading h rows n project agree is
judged_by reading h rows _ project agree there is = absurd (cc)

-- and that by whose file a question is answered
topic_judged : (reading : Reading) (h : List Entry) (rows : Rows) (topic : Topic) (project : List ℕ) → Agrees (view reading h) rows → is_project h project ≡ true →
    project_of rows topic ≡ Some project → topic_project reading h topic ≡ Some project
topic_judged reading h rows (OfCommand command) project agree there is = judged_by reading h rows command project agree there is
topic_judged reading h rows (OfQuery (asked.Branch given branch)) project agree there is = absurd (cc)
topic_judged reading h rows (OfQuery (asked.OnChange n query)) project agree there is = judged_by_change (asks_file query) reading h rows n project agree is

-- ---- the texts of the file that is to be read

-- the parent that is asked for is that of the project, where this is there
parent_is : (rows : Rows) (topic : Topic) (project : List ℕ) (f : StoredFile) → project_of rows topic ≡ Some project → own_in rows project ≡ Some f → parent_of rows topic ≡ f.parent
parent_is rows topic project f is has = by topic is ∙ ap (option_and_then (λ (x : StoredFile). x.parent)) has
  where
    by : (topic : Topic) → project_of rows topic ≡ Some project → parent_of rows topic ≡ known_parent rows project
    by (OfQuery (asked.Branch given branch)) is = absurd (cc)
    by (OfQuery (asked.OnChange n query)) is = ap (option_and_then (known_parent rows)) is
    by (OfCommand (CreateAccount name)) is = absurd (cc)
    by (OfCommand (PutGroup group members)) is = absurd (cc)
    by (OfCommand (PutProject given text)) is =
        let same : given ≡ project = cc in
        ap (λ q. parent_or (named_parent text) (own_in rows q)) same ∙ ap (parent_or (named_parent text)) has ∙ sym (ap (option_and_then (λ (x : StoredFile). x.parent)) has)
    by (OfCommand (RecordBase given branch commit)) is = absurd (cc)
    by (OfCommand (CreateChange new)) is = ap (option_and_then (known_parent rows)) is
    by (OfCommand (OnChange n command)) is = ap (option_and_then (known_parent rows)) is
    by (OfCommand (Submit n)) is = ap (option_and_then (known_parent rows)) is
    by (OfCommand (CloseEpoch epoch)) is = absurd (cc)

-- the project whose line has texts, with what it has of its own
record HasTexts (rows : Rows) (topic : Topic) : Type 0 where
  project : List ℕ
  file : StoredFile
  is : project_of rows topic ≡ Some project
  has : own_in rows project ≡ Some file
  asked : IsKnown rows (want.File project)
  steps : AllByRecursion (λ s. unknown rows s ≡ []) (line_steps rows most_depth file.parent)

has_texts : (rows : Rows) (caller : ℕ) (topic : Topic) (text : List ℕ) (above : List (List ℕ)) → next None rows caller topic ≡ [] → texts_for rows topic ≡ text ∷ above → HasTexts rows topic
has_texts rows caller topic text above left are = by (project_of rows topic) refl are
  where
    of_file : (project : List ℕ) → project_of rows topic ≡ Some project → (o : Option StoredFile) → own_in rows project ≡ o → with_above o (line_of (own_in rows) 7) ≡ text ∷ above → HasTexts rows topic
    of_file project is None has are = absurd (let none : [] ≡ text ∷ above = are in cc)
    of_file project is (Some f) has are = record {
      project = project;
      file = f;
      is = is;
      has = has;
      asked = file_known (known rows (want.File project)) f has;
      steps = subst (λ p. AllByRecursion (λ s. unknown rows s ≡ []) (line_steps rows most_depth p)) (parent_is rows topic project f is has) (line_asked None rows caller topic left);
    }

    by : (o : Option (List ℕ)) → project_of rows topic ≡ o → texts_in rows o ≡ text ∷ above → HasTexts rows topic
    by None is are = absurd (let none : [] ≡ text ∷ above = are in cc)
    by (Some project) is are = of_file project is (own_in rows project) refl are

-- the texts that are to be read are those of a project's line
pub record AreOf (reading : Reading) (h : List Entry) (topic : Topic) (texts : List (List ℕ)) : Type 0 where
  pub project : List ℕ
  pub texts_are : texts_of h project ≡ texts
  pub judges : topic_project reading h topic ≡ Some project

pub are_of : (reading : Reading) (h : List Entry) (rows : Rows) (caller : ℕ) (topic : Topic) (text : List ℕ) (above : List (List ℕ)) → Agrees (view reading h) rows → next None rows caller topic ≡ [] →
    texts_for rows topic ≡ text ∷ above → AreOf reading h topic (text ∷ above)
are_of reading h rows caller topic text above agree left are =
    let t = has_texts rows caller topic text above left are in
    let above_is : known_parent rows t.project ≡ t.file.parent = ap (option_and_then (λ (x : StoredFile). x.parent)) t.has in
    let told =
    texts_told reading h rows agree t.project t.asked (subst (λ p. AllByRecursion (λ s. unknown rows s ≡ []) (line_steps rows most_depth p)) (sym above_is) t.steps) in
    let there : is_project h t.project ≡ true = there_is h t.project ∙ (ap is_some (sym (own_told reading h rows t.project agree t.asked)) ∙ ap is_some t.has) in
    record {
      project = t.project;
      texts_are = sym told ∙ (sym (ap (texts_in rows) t.is) ∙ are);
      judges = topic_judged reading h rows topic t.project agree there t.is;
    }

-- ---- what more rows leave

-- where rows know a change, more rows know it alike
change_stays : (needed : Bool) (first rows : Rows) (n : ℕ) (project : List ℕ) → StaysKnown first rows →
    project_for needed (change_in (known first (want.Change n))) ≡ Some project → project_for needed (change_in (known rows (want.Change n))) ≡ Some project
change_stays false first rows n project stays is = absurd (cc)
change_stays true first rows n project stays is =
    let of = of_project (change_in (known first (want.Change n))) project is in
    let there : is_some (known first (want.Change n)) ≡ true = ap is_some (change_found (known first (want.Change n)) of.0 of.1) in
    ap (λ k. option_map (λ (c : Change). c.project) (change_in k)) (stays (want.Change n) there) ∙ is

project_stays : (first rows : Rows) (topic : Topic) (project : List ℕ) → StaysKnown first rows → project_of first topic ≡ Some project → project_of rows topic ≡ Some project
project_stays first rows (OfQuery (asked.OnChange n query)) project stays is = change_stays (asks_file query) first rows n project stays is
project_stays first rows (OfCommand (PutProject given text)) project stays is = is
project_stays first rows (OfCommand (CreateChange new)) project stays is = is
project_stays first rows (OfCommand (OnChange n command)) project stays is = change_stays (needs_file command) first rows n project stays is
project_stays first rows (OfCommand (Submit n)) project stays is = change_stays true first rows n project stays is
project_stays first rows _ project stays is = absurd (cc)

module _ (first rows : Rows) (stays : StaysKnown first rows) where
  -- a line that was asked for is the same in more rows
  line_stays : (n : ℕ) (p : Option (List ℕ)) → AllByRecursion (λ s. unknown first s ≡ []) (line_steps first n p) → option_map_or (line_of (own_in rows) n) p [] ≡ option_map_or (line_of (own_in first) n) p []
  line_stays zero None all = refl
  line_stays zero (Some q) all = refl
  line_stays (suc n) None all = refl
  line_stays (suc n) (Some q) all =
      let same : own_in rows q ≡ own_in first q = ap file_in (stays (want.File q) (each_known first (line_wants (Some q)) all.0).0) in
      ap (λ o. with_above o (line_of (own_in rows) n)) same ∙ by (own_in first q) (λ p more. line_stays n p more) all.1
    where
      by : (o : Option StoredFile) → ((p : Option (List ℕ)) → AllByRecursion (λ s. unknown first s ≡ []) (line_steps first n p) → option_map_or (line_of (own_in rows) n) p [] ≡ option_map_or (line_of (own_in first) n) p []) →
          AllByRecursion (λ s. unknown first s ≡ []) (line_steps first n (option_and_then (λ (x : StoredFile). x.parent) o)) → with_above o (line_of (own_in rows) n) ≡ with_above o (line_of (own_in first) n)
      by None later all = refl
      by (Some f) later all = ap (λ ts. f.text ∷ ts) (later f.parent all)

  -- the texts that are to be read stay
  texts_stay : (caller : ℕ) (topic : Topic) (text : List ℕ) (above : List (List ℕ)) → next None first caller topic ≡ [] → texts_for first topic ≡ text ∷ above → texts_for rows topic ≡ text ∷ above
  texts_stay caller topic text above left are =
      let t = has_texts first caller topic text above left are in
      let same : own_in rows t.project ≡ own_in first t.project = ap file_in (stays (want.File t.project) t.asked) in
      let here : texts_in rows (Some t.project) ≡ with_above (Some t.file) (line_of (own_in rows) 7) = ap (λ o. with_above o (line_of (own_in rows) 7)) (same ∙ t.has) in
      let there : texts_in first (Some t.project) ≡ with_above (Some t.file) (line_of (own_in first) 7) = ap (λ o. with_above o (line_of (own_in first) 7)) t.has in
      ap (texts_in rows) (project_stays first rows topic t.project stays t.is)
      ∙ (here
      ∙ (ap (λ ts. t.file.text ∷ ts) (line_stays 7 t.file.parent (fewer first 7 t.file.parent t.steps))
      ∙ (sym there ∙ (sym (ap (texts_in first) t.is) ∙ are))))

  -- a file that was read is that of the texts, whatever more rows know
  pub file_stays : (caller : ℕ) (topic : Topic) (file : File) → next None first caller topic ≡ [] → HasFile (texts_for first topic) (Some file) → HasFile (texts_for rows topic) (Some file)
  file_stays caller topic file left has = at (texts_for first topic) refl has
    where
      at : (texts : List (List ℕ)) → texts_for first topic ≡ texts → HasFile texts (Some file) → HasFile (texts_for rows topic) (Some file)
      at [] are has = absurd (let none : Some file ≡ None = has in cc)
      at (text ∷ above) are has = subst (λ ts. HasFile ts (Some file)) (sym (texts_stay caller topic text above left are)) has

-- ---- why a file is not read

-- texts of which one is not read for a pattern are those of a project's line
judged : (t : Tables) (rows : Rows) (caller : ℕ) (topic : Topic) (text : List ℕ) (above : List (List ℕ)) → Agrees t rows → next None rows caller topic ≡ [] → texts_for rows topic ≡ text ∷ above →
    SomePattern (text ∷ above) → IsJudgedByPattern topic t
judged t rows caller topic text above agree left are has = λ reading h reads v.
    let of = are_of reading h rows caller topic text above (subst (λ (u : Tables). Agrees u rows) (view_of reading h t (v reading reads)) agree) left are in
    subst (HasPatternIn h) (sym of.judges) (subst SomePattern (sym of.texts_are) has)

-- tables with texts for which no file is effective are those of no history
damaged : (t : Tables) (rows : Rows) (caller : ℕ) (topic : Topic) (text : List ℕ) (above : List (List ℕ)) → Agrees t rows → next None rows caller topic ≡ [] → texts_for rows topic ≡ text ∷ above →
    ((f : File) → IsEffective (text ∷ above) f → ⊥) → IsDamaged t
damaged t rows caller topic text above agree left are unread = λ h history v.
    let r = reading_of h history in
    let of = are_of r.0 h rows caller topic text above (subst (λ (u : Tables). Agrees u rows) (view_of r.0 h t (v r.0 r.1)) agree) left are in
    let right : AreReadRight r.0 (text ∷ above) = subst (AreReadRight r.0) of.texts_are (line_read r.0 h r.1 most_depth of.project) in
    unread (effective_of r.0 (text ∷ above)) (effective_is r.0 text above right)

pub unread_is : (tables : Option Tables) (rows : Rows) (caller : ℕ) (topic : Topic) (cause : Cause) → Shows tables (λ t. Agrees t rows) → next None rows caller topic ≡ [] → IsUnread (texts_for rows topic) cause →
    IsUngathered topic tables cause
unread_is None rows caller topic cause agree left unread = absurd agree
unread_is (Some t) rows caller topic cause agree left unread = at (texts_for rows topic) refl cause unread
  where
    at : (texts : List (List ℕ)) → texts_for rows topic ≡ texts → (cause : Cause) → IsUnread texts cause → IsUngathered topic (Some t) cause
    at texts are Memory unread = tt
    at texts are Store unread = tt
    at [] are Pattern unread = absurd unread
    at (text ∷ above) are Pattern unread = judged t rows caller topic text above agree left are unread
    at [] are Damaged unread = absurd unread
    at (text ∷ above) are Damaged unread = damaged t rows caller topic text above agree left are unread
    at [] are Full unread = absurd unread
    at (text ∷ above) are Full unread = absurd unread

-- a cause that a `?` passed on
pub passed_on : {X : Type 0} (Holds : Cause → Type 0) (r : Result X Cause) (c : Cause) → IsErr r × IsErrAnd r (λ d. d ≡ c) → Holds c → IfErr r Holds
passed_on Holds (Ok x) c e so = let f = e.0 in absurd (cc)
passed_on Holds (Err d) c e so = subst Holds (sym e.1) so
