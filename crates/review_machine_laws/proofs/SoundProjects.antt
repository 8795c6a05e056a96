-- Projects of a history are sound, and each vote stands by the file of its project.
use Rattle.std.proofs.Common.{◌≡◌, ℕ, ◌+◌, ◌==◌, List, [], ◌∷◌, length, Option, Some, None, Bool, true, false, cond, refl, sym, ap, ◌∙◌, subst, is_some, option_map, bytes_eq, ◌++◌, int_eq, ◌&&◌, ℤ, pos, eqb-true}
use Rattle.std.{proofs.Math.Bool.and-true, specs.List.list_any, specs.List.AllByRecursion}
use Rattle.review_words.specs.History.{Entry, accepted, file_text, if_done, is_account, is_project, text_put}
use Rattle.review_words.specs.declared.changes.Review.{Review as ReviewOf}
use Rattle.review_words.specs.declared.command.Command.TheVariants.{PutProject, CreateChange, OnChange}
use Rattle.review_file_rules.proofs.Known.{OrderedLabels, covers_found, covers_itself, covers_through, label_name, values_through}
use Rattle.review_file_rules.proofs.Named.{named, all_true}
use Rattle.review_core_rules.proofs.Stays.{some_put}
use Rattle.review_core_rules.specs.Change.{Change, after, begun, Setting, copying, current, given_or, reviewed, vote_by}
use Rattle.review_machine_rows.proofs.Common.{Answer, ChangeCommand, Command, Done, File, Given, OneFile, Refusal, Reply, UnknownCaller, bytes_eq-Decides, covers, most_depth, option_map_or, voted}
use Rattle.review_machine_rows.proofs.Readings.{IsDoneBy, done_of, reading_of}
use Rattle.review_machine_rows.specs.Answer.{IsAnswerBy, IsHistory, checks, is_value_of, given_checks, request_checks}
use Rattle.review_machine_rows.specs.Changes.{Reading, Reads, change, change_by, change_count, setting_of, submitted, file_of, own_of}
use Rattle.review_machine_rows.specs.{Desks.facts_of, Facts.DeskFacts}
use Rattle.review_machine_laws.proofs.Changes.{joining_keeps, all_pass, done_passes, Passes, checks_pass, made_holds, named_holds}
use Rattle.review_machine_laws.proofs.Growing.{eff_ordered}
use Rattle.review_machine_laws.proofs.Histories.{files_grow, lines_end, sound_files, labels_known}
use Rattle.review_machine_laws.specs.SoundProjects.{AreOfLabels, AreSoundProjects}
use Rattle.review_words.specs.declared.command.ChangeCommand.TheVariants as on

-- ==== the project of a change has a file

-- a project that is there stays there
pub text_stays : (o : Option Command) (project : List ℕ) (before : Option (List ℕ)) → is_some before ≡ true → is_some (text_put o project before) ≡ true
text_stays (Some (PutProject given text)) project before some = some_put (bytes_eq given project) text before some
text_stays _ project before some = some

named_keeps : (P : List ℕ → Type 0) (b : Bool) (o : Option Change) (f : Change → Change) (c : Change) → ((x : Change) → o ≡ Some x → P x.project) → ((x : Change) → (f x).project ≡ x.project) →
    cond b (option_map f o) o ≡ Some c → P c.project
named_keeps P true None f c before keeps is = absurd (cc)
named_keeps P true (Some x) f c before keeps is = let same : f x ≡ c = cc in subst P (sym (keeps x) ∙ ap (λ (y : Change). y.project) same) (before x refl)
named_keeps P false o f c before keeps is = before c is

made : (P : List ℕ → Type 0) (b : Bool) (o : Option Change) (new c : Change) → ((x : Change) → o ≡ Some x → P x.project) → P new.project → cond b (Some new) o ≡ Some c → P c.project
made P true o new c before here is = let same : new ≡ c = cc in subst P (ap (λ (y : Change). y.project) same) here
made P false o new c before here is = before c is

project_by : (reading : Reading) (h : List Entry) (caller n : ℕ) (c : Change) (command : Command) (a : Answer) → IsAnswerBy reading h caller command (Done a) →
    ((x : Change) → change reading h n ≡ Some x → is_project h x.project ≡ true) → change_by reading h caller (Some command) n (change reading h n) ≡ Some c → is_project h c.project ≡ true
project_by reading h caller n c (CreateChange new) a answer before is =
    let pass = all_pass ((is_account h caller, UnknownCaller) ∷ checks (facts_of reading h) caller (CreateChange new)) (done_passes reading h caller (CreateChange new) a answer) in
    made (λ p. is_project h p ≡ true) (change_count h + 1 == n) (change reading h n) (begun new caller (length h + 1)) c before pass.1.0 is
project_by reading h caller n c (OnChange m command) a answer before is =
    named_keeps (λ p. is_project h p ≡ true) (m == n) (change reading h n) (λ x. after (setting_of reading h x.project) command caller (length h + 1) x) c before (λ x. refl) is
project_by reading h caller n c _ a answer before is = before c is

-- the project of a change is there, also after what was done
pub project_stays : (reading : Reading) (h : List Entry) (caller n : ℕ) (c : Change) (command : Command) (reply : Reply) → IsDoneBy reading h caller command reply →
    ((x : Change) → change reading h n ≡ Some x → is_project h x.project ≡ true) → change_by reading h caller (if_done reply command) n (change reading h n) ≡ Some c → is_project h c.project ≡ true
project_stays reading h caller n c command (Done a) answer before is = project_by reading h caller n c command a answer before is
project_stays reading h caller n c command _ answer before is = before c is

pub has_project : (reading : Reading) (h : List Entry) (n : ℕ) (c : Change) → IsHistory h → Reads reading h → change reading h n ≡ Some c → is_project h c.project ≡ true
has_project reading [] n c history reads is = absurd (cc)
has_project reading (e ∷ h) n c history reads is =
    text_stays (accepted e) c.project (file_text h c.project)
    (joining_keeps (λ x. is_project h x.project ≡ true) (λ place request x holds. holds) h (submitted (accepted e) e.reply) n
    (change_by reading h e.identity.caller (accepted e) n (change reading h n)) c
    (λ x there. project_stays reading h e.identity.caller n x e.command e.reply (done_of e h history reading reads.1) (λ y was. has_project reading h n y history.3 reads.1 was) there) is)

-- ==== effective files keep what they had, over many requests

-- the labels of an effective file are in order
pub file_ordered : OneFile → (reading : Reading) (h : List Entry) → IsHistory h → Reads reading h → (project : List ℕ) → is_project h project ≡ true → OrderedLabels (file_of reading h project).labels
file_ordered one reading h history reads project is = eff_ordered reading (own_of h) (sound_files one reading h history reads).spelled most_depth project (lines_end one reading h history reads project is)

-- a value of a label stays one where the file is covered
pub value_stays : (old new : File) (g : Given) → OrderedLabels new.labels → covers old new ≡ true → is_value_of old g ≡ true → is_value_of new g ≡ true
value_stays old new g in_order covered is = by (named label_name g.label old.labels) refl is
  where
    by : (o : _) → named label_name g.label old.labels ≡ o → option_map_or (λ label. list_any (λ v. int_eq v.0 g.value) label.values) o false ≡ true → is_value_of new g ≡ true
    by None none h = absurd (let bad : false ≡ true = h in cc)
    by (Some l) found h =
        let m = covers_found old new g.label l in_order covered found in
        ap (λ o. option_map_or (λ label. list_any (λ v. int_eq v.0 g.value) label.values) o false) m.1
        ∙ (sym (and-true (list_any (λ v. int_eq v.0 g.value) m.0.values))
        ∙ values_through m.0.values l.values ((g.value, []) ∷ []) m.2 (and-true (list_any (λ v. int_eq v.0 g.value) l.values) ∙ h))

-- a project that was there before some requests is there after them
pub still_there : (later before : List Entry) (project : List ℕ) → is_project before project ≡ true → is_project (later ++ before) project ≡ true
still_there [] before project is = is
still_there (e ∷ later) before project is = text_stays (accepted e) project (file_text (later ++ before) project) (still_there later before project is)

-- no request of some takes anything away
pub labels_stay : OneFile → (reading : Reading) (later before : List Entry) → IsHistory (later ++ before) → Reads reading (later ++ before) → (project : List ℕ) → is_project before project ≡ true →
    covers (file_of reading before project) (file_of reading (later ++ before) project) ≡ true
labels_stay one reading [] before history reads project is = covers_itself (file_of reading before project) (file_ordered one reading before history reads project is)
labels_stay one reading (e ∷ later) before history reads project is =
    let there = still_there later before project is in
    covers_through (file_of reading before project) (file_of reading (later ++ before) project) (file_of reading (e ∷ later ++ before) project)
    (begin_ordered later before history.3 reads.1 is)
    (file_ordered one reading (later ++ before) history.3 reads.1 project there)
    (file_ordered one reading (e ∷ later ++ before) history reads project (still_there (e ∷ later) before project is))
    (labels_stay one reading later before history.3 reads.1 project is)
    (files_grow one reading e (later ++ before) history reads project there)
  where
    begin_ordered : (later before : List Entry) → IsHistory (later ++ before) → Reads reading (later ++ before) → is_project before project ≡ true → OrderedLabels (file_of reading before project).labels
    begin_ordered [] before history reads is = file_ordered one reading before history reads project is
    begin_ordered (x ∷ xs) before history reads is = begin_ordered xs before history.3 reads.1 is

-- ==== each vote is on a label of the file, with a value of it

-- a vote is on a label of a file, with a value of it, where there is one
abbrev IsOf : File → List ℕ → ℤ → Type 0
IsOf file l v = voted v ≡ true → is_value_of file (record { label = l; value = v }) ≡ true

-- each of these values is one of its label
abbrev AreValues : File → List Given → Type 0
AreValues file given = AllByRecursion (λ g. is_value_of file g ≡ true) given

no_vote : (file : File) (l : List ℕ) → IsOf file l (pos 0)
no_vote file l there = absurd (let bad : false ≡ true = there in cc)

either : (file : File) (l : List ℕ) (b : Bool) (v w : ℤ) → IsOf file l v → IsOf file l w → IsOf file l (cond b v w)
either file l true v w of_one of_other = of_one
either file l false v w of_one of_other = of_other

-- the value that is given on a label, or that was there before
given_is : (file : File) (given : List Given) (l : List ℕ) (before : ℤ) → AreValues file given → IsOf file l before → IsOf file l (given_or given l before)
given_is file [] l before all was = was
given_is file (g ∷ gs) l before all was = given_is file gs l (cond (bytes_eq g.label l) g.value before) all.1 (by (bytes_eq g.label l) refl)
  where
    by : (b : Bool) → bytes_eq g.label l ≡ b → IsOf file l (cond b g.value before)
    by true same there = subst (λ x. is_value_of file (record { label = x; value = g.value }) ≡ true) ((bytes_eq-Decides g.label l).0 same) all.0
    by false other there = was there

-- the values of a review are values of their labels, where its checks pass
values_pass : (facts : DeskFacts) (file : File) (caller : ℕ) (r : ReviewOf) (c : Change) (given : List Given) (rest : List (Bool × Refusal)) → AllByRecursion Passes (given_checks facts file caller r c given ++ rest) → AreValues file given
values_pass facts file caller r c [] rest all = tt
values_pass facts file caller r c (g ∷ gs) rest all = all_true (is_value_of file) (g ∷ gs) all.1.1.1.0

-- what a request on a change leaves of its votes
votes_after : (reading : Reading) (h : List Entry) (caller request : ℕ) (command : ChangeCommand) (c : Change) → AllByRecursion Passes (request_checks (facts_of reading h) caller command c) →
    AreOfLabels (file_of reading h c.project) c → (n : ℕ) (l : List ℕ) (a : ℕ) → IsOf (file_of reading h c.project) l (vote_by (copying (setting_of reading h c.project) command caller c) command caller c n l a)
votes_after reading h caller request (on.Upload p) c pass was n l a =
    let file = file_of reading h c.project in
    let v = c.vote (current c) l a in
    either file l (current c + 1 == n) (cond ((copying (setting_of reading h c.project) (on.Upload p) caller c).copies l a v) v (pos 0)) (c.vote n l a)
    (either file l ((copying (setting_of reading h c.project) (on.Upload p) caller c).copies l a v) v (pos 0) (was (current c) l a) (no_vote file l))
    (was n l a)
votes_after reading h caller request (on.Review r) c pass was n l a =
    let file = file_of reading h c.project in
    either file l ((reviewed r c == n) && (caller == a)) (given_or r.labels l (c.vote n l a)) (c.vote n l a)
    (given_is file r.labels l (c.vote n l a) (values_pass (facts_of reading h) file caller r c r.labels _ pass.1) (was n l a))
    (was n l a)
votes_after reading h caller request (on.RemoveReviewer u) c pass was n l a =
    either (file_of reading h c.project) l ((current c == n) && (u == a)) (pos 0) (c.vote n l a) (no_vote (file_of reading h c.project) l) (was n l a)
votes_after reading h caller request _ c pass was n l a = was n l a

-- the votes of a change are by the file of its project after a history
abbrev Stands : Reading → List Entry → Change → Type 0
Stands reading h c = AreOfLabels (file_of reading h c.project) c

-- a command that was done leaves votes on labels
done_stands : (reading : Reading) (h : List Entry) (caller n : ℕ) (c : Change) (command : Command) (a : Answer) → IsAnswerBy reading h caller command (Done a) →
    ((x : Change) → change reading h n ≡ Some x → Stands reading h x) → change_by reading h caller (Some command) n (change reading h n) ≡ Some c → Stands reading h c
done_stands reading h caller n c (CreateChange new) a answer before is =
    made_holds (Stands reading h) (change_count h + 1 == n) (change reading h n) (begun new caller (length h + 1)) c before (λ k l u. no_vote (file_of reading h new.project) l) is
done_stands reading h caller n c (OnChange m command) a answer before is =
    named_holds (Stands reading h) (m == n) (change reading h n) (λ x. after (setting_of reading h x.project) command caller (length h + 1) x) c before
    (λ same x there stands.
    let pass = checks_pass reading h caller (request_checks (facts_of reading h) caller command) (change reading h m) x (ap (change reading h) (eqb-true m n same) ∙ there) (done_passes reading h caller (OnChange m command) a answer) in
    votes_after reading h caller (length h + 1) command x pass stands)
    is
done_stands reading h caller n c _ a answer before is = before c is

step_stands : (reading : Reading) (h : List Entry) (caller n : ℕ) (c : Change) (command : Command) (reply : Reply) → IsDoneBy reading h caller command reply →
    ((x : Change) → change reading h n ≡ Some x → Stands reading h x) → change_by reading h caller (if_done reply command) n (change reading h n) ≡ Some c → Stands reading h c
step_stands reading h caller n c command (Done a) answer before is = done_stands reading h caller n c command a answer before is
step_stands reading h caller n c command _ answer before is = before c is

-- Each vote of a history is on a label of its project's effective file, with a value of it.
pub votes_stand : OneFile → (reading : Reading) (h : List Entry) → IsHistory h → Reads reading h → (n : ℕ) (c : Change) → change reading h n ≡ Some c → Stands reading h c
votes_stand one reading [] history reads n c is = absurd (cc)
votes_stand one reading (e ∷ h) history reads n c is =
    joining_keeps (Stands reading (e ∷ h)) (λ place request x holds. holds) h (submitted (accepted e) e.reply) n (change_by reading h e.identity.caller (accepted e) n (change reading h n)) c
    (λ x there. later x (project_there x there)
    (step_stands reading h e.identity.caller n x e.command e.reply (done_of e h history reading reads.1) (λ y was. votes_stand one reading h history.3 reads.1 n y was) there)) is
  where
    project_there : (x : Change) → change_by reading h e.identity.caller (accepted e) n (change reading h n) ≡ Some x → is_project h x.project ≡ true
    project_there x there = project_stays reading h e.identity.caller n x e.command e.reply (done_of e h history reading reads.1) (λ y was. has_project reading h n y history.3 reads.1 was) there

    later : (x : Change) → is_project h x.project ≡ true → Stands reading h x → Stands reading (e ∷ h) x
    later x is stands k l a there =
        value_stays (file_of reading h x.project) (file_of reading (e ∷ h) x.project) (record { label = l; value = x.vote k l a })
        (file_ordered one reading (e ∷ h) history reads x.project (text_stays (accepted e) x.project _ is))
        (files_grow one reading e h history reads x.project is) (stands k l a there)

-- ==== every project of a history is sound

-- what was kept, of a history that is these requests after those
kept_of : OneFile → (h : List Entry) → IsHistory h → (reading : Reading) → Reads reading h → (later before : List Entry) → h ≡ later ++ before → (project : List ℕ) → is_project before project ≡ true →
    covers (file_of reading before project) (file_of reading h project) ≡ true
kept_of one h history reading reads later before is project there =
    subst (λ x. covers (file_of reading before project) (file_of reading x project) ≡ true) (sym is)
    (labels_stay one reading later before (subst IsHistory is history) (subst (Reads reading) is reads) project there)

pub sound_projects : OneFile → (h : List Entry) → IsHistory h → AreSoundProjects h
sound_projects one h history = record {
  lines = λ project is. let r = reading_of h history in lines_end one r.0 h history r.1 project is;
  labels = λ reading reads later before is project there. kept_of one h history reading reads later before is project there;
  known = λ reading reads project is. labels_known one reading h history reads project is;
  votes = λ reading reads n c is. votes_stand one reading h history reads n c is;
}
