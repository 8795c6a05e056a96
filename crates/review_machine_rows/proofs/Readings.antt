-- What is read of a history, and what is known of an accepted command.
use Rattle.std.proofs.Common.{◌≤◌, length, ◌≡◌, ℕ, List, [], ◌∷◌, Option, Some, None, Bool, true, false, refl, arith, MatchOption, nat_le, nat_lt, ◌⊎◌, inl, inr, ◌∙◌, cond, sym, ap, subst, ⊎_elim, MatchBool, ◌&&◌, bytes_eq}
use Rattle.review_words.specs.History.{Entry, is_closed, least_open, raised, accepted, if_done, Asking, asking_of, file_text, text_put}
use Rattle.review_words.specs.declared.command.ChangeCommand.TheVariants.{Upload}
use Rattle.review_words.specs.declared.faults.FileFault.TheVariants.{UnknownKey}
use Rattle.review_file_rules.specs.Inherited.{no_file}
use Rattle.review_machine_rows.proofs.Common.{Answer, BadFile, ChangeCommand, CloseEpoch, Command, Done, EpochAhead, File, IsRead, NewPatch, Nothing, PutProject, Refusal, Refused, Reply, SameState, bytes_eq-Decides, cases_Bool, nat_tests}
use Rattle.review_machine_rows.specs.Answer.{most_requests, IsAnswerBy, IsAnswerAt, epoch_checks, first_refusal, refused_by, refused_or, IsRequestOutcome, done_on, IsAnswer, IsAnswerIn, IsAnswerWithoutParents, IsHistory, IsFaultAnswer, IsFileAnswer, puts_parent}
use Rattle.review_machine_rows.specs.Changes.{Reading, change, Reads, IsReadRight}
use Rattle.review_machine_rows.specs.Desks.{facts_of}

-- ==== epochs of histories, and what is known of an accepted command whatever its epoch

-- What was done was an answer by the rules of today, whatever version's rules answered it, and in whatever epoch. Nothing is said of a refusal.
abbrev pub IsDoneBy : Reading → List Entry → ℕ → Command → Reply → Type 0
IsDoneBy reading h caller command (Done a) = IsAnswerBy reading h caller command (Done a)
IsDoneBy reading h caller command reply = Unit {0}

closing_done : (o p : Option Refusal) (a : Answer) → MatchOption o (Done a ≡ refused_or p Nothing) (λ r. Done a ≡ Refused r) → MatchOption o (Done a ≡ Done Nothing) (λ r. Done a ≡ Refused r)
closing_done None None a is = is
closing_done None (Some r) a is = absurd (cc)
closing_done (Some r) p a is = is

pub done_by : (reading : Reading) (h : List Entry) (caller epoch : ℕ) (command : Command) (reply : Reply) → IsAnswerAt reading h caller epoch command reply → IsDoneBy reading h caller command reply
done_by reading h caller epoch (CloseEpoch least) (Done a) is = closing_done (refused_by reading h caller (CloseEpoch least)) (first_refusal (epoch_checks (facts_of reading h) epoch least)) a is
done_by reading h caller epoch _ (Done a) is = is
done_by reading h caller epoch command _ is = tt

-- the checks of an accepted CloseEpoch
passed : (b c : Bool) (a : Answer) (o : Option Refusal) →
    MatchOption o (Done a ≡ refused_or (first_refusal ((b, EpochAhead) ∷ (c, SameState) ∷ [])) Nothing) (λ r. Done a ≡ Refused r) → (b ≡ true) × (c ≡ true)
passed b c a (Some r) is = absurd (cc)
passed true true a None is = (refl, refl)
passed true false a None is = absurd (let e : Done a ≡ Refused SameState = is in cc)
passed false c a None is = absurd (let e : Done a ≡ Refused EpochAhead = is in cc)

-- an accepted CloseEpoch closes no epoch from its own on, and one epoch more at least
pub closes_below : (reading : Reading) (h : List Entry) (caller epoch least : ℕ) (a : Answer) → IsAnswerAt reading h caller epoch (CloseEpoch least) (Done a) →
    (nat_le least epoch ≡ true) × (nat_lt (least_open h) least ≡ true)
closes_below reading h caller epoch least a is = passed (nat_le least epoch) (nat_lt (least_open h) least) a (refused_by reading h caller (CloseEpoch least)) is

-- an epoch that is closed stays so
raised_more : (o : Option Command) (n epoch : ℕ) → nat_lt epoch n ≡ true → nat_lt epoch (raised o n) ≡ true
raised_more (Some (CloseEpoch least)) n epoch closed = grind (arith, nat_tests, closed)
raised_more _ n epoch closed = closed

pub closed_stays : (e : Entry) (h : List Entry) (epoch : ℕ) → is_closed h epoch ≡ true → is_closed (e ∷ h) epoch ≡ true
closed_stays e h epoch closed = raised_more (accepted e) (least_open h) epoch closed

-- an epoch that is open was so before
pub open_before : (e : Entry) (h : List Entry) (epoch : ℕ) → is_closed (e ∷ h) epoch ≡ false → is_closed h epoch ≡ false
open_before e h epoch opened = at (is_closed h epoch) refl
  where
    at : (b : Bool) → is_closed h epoch ≡ b → is_closed h epoch ≡ false
    at false is = is
    at true is = absurd (let t = closed_stays e h epoch is in cc)

-- a request leaves its own epoch open
pub own_open : (reading : Reading) (h : List Entry) (caller epoch : ℕ) (command : Command) (reply : Reply) → IsAnswerAt reading h caller epoch command reply → is_closed h epoch ≡ false →
    nat_lt epoch (raised (if_done reply command) (least_open h)) ≡ false
own_open reading h caller epoch (CloseEpoch least) (Done a) is opened = let p = closes_below reading h caller epoch least a is in grind (arith, nat_tests, p.0, p.1)
own_open reading h caller epoch _ (Done a) is opened = opened
own_open reading h caller epoch command _ is opened = opened

-- ==== what a request on a change is told that no check refuses

-- what the request is told is that it is done, with what it gives
abbrev pub IsToldDone : ChangeCommand → Type 0
IsToldDone command = (reading : Reading) (h : List Entry) (caller n : ℕ) (reply : Reply) → IsRequestOutcome reading h caller n command reply → reply ≡ Done (done_on command (change reading h n))

-- a request sends a patch set, or is told that it is done
pub sent_or_done : (command : ChangeCommand) → ((patch : NewPatch) × (command ≡ Upload patch)) ⊎ IsToldDone command
sent_or_done (Upload patch) = inl (patch, refl)
sent_or_done _ = inr (λ reading h caller n reply is. is)

-- ==== what is read of the texts that a history puts

-- what is read, with the file of one text more
abbrev reading_with : Reading → List ℕ → File → Reading
reading_with reading text file t = cond (bytes_eq t text) file (reading t)

read_with : (reading : Reading) (text : List ℕ) (file : File) → IsRead text file → (t : List ℕ) → (bytes_eq t text ≡ true) ⊎ IsRead t (reading t) → IsRead t (reading_with reading text file t)
read_with reading text file is t either = ⊎_elim
    (λ (same : bytes_eq t text ≡ true).
    subst (IsRead t) (sym (ap (λ b. cond b file (reading t)) same)) (subst (λ x. IsRead x file) (sym ((bytes_eq-Decides t text).0 same)) is))
    (λ (other : bytes_eq t text ≡ false). subst (IsRead t) (sym (ap (λ b. cond b file (reading t)) other)) (⊎_elim (λ same. let e : true ≡ false = sym same ∙ other in absurd (cc)) (λ right. right) either))
    (cases_Bool (bytes_eq t text))

right_with : (reading : Reading) (text : List ℕ) (file : File) → IsRead text file → (c : Option Command) → IsReadRight reading c → IsReadRight (reading_with reading text file) c
right_with reading text file is (Some (PutProject project t)) right = read_with reading text file is t (inr right)
right_with reading text file is _ right = tt

reads_with : (reading : Reading) (text : List ℕ) (file : File) → IsRead text file → (h : List Entry) → Reads reading h → Reads (reading_with reading text file) h
reads_with reading text file is [] reads = tt
reads_with reading text file is (e ∷ h) reads = (right_with reading text file is (accepted e) reads.0, reads_with reading text file is h reads.1)

-- an answer that is no refusal is given where no check refuses
pub not_refused : {A : Type 0} (o : Option Refusal) (a : Answer) → MatchOption o A (λ r. Done a ≡ Refused r) → A
not_refused None a outcome = outcome
not_refused (Some r) a refused = absurd (cc)

-- the file that an accepted PutProject puts
pub put_file : (reading : Reading) (h : List Entry) (caller : ℕ) (project text : List ℕ) (a : Answer) → IsAnswerBy reading h caller (PutProject project text) (Done a) → (f : File) × IsRead text f
put_file reading h caller project text a answer =
    ⊎_elim (λ (fault : IsFaultAnswer text (Done a)). let e : Done a ≡ Refused (BadFile fault.0) = fault.2 in absurd (cc)) (λ (file : IsFileAnswer reading h project text (Done a)). (file.0, file.1))
    (not_refused (refused_by reading h caller (PutProject project text)) a answer)

-- a text with the key `parent` was never put in version 1
not_done : (o : Option Refusal) (a : Answer) → MatchOption o (Done a ≡ Refused (BadFile UnknownKey)) (λ r. Done a ≡ Refused r) → ⊥
not_done None a e = absurd (cc)
not_done (Some r) a e = absurd (cc)

done_whenever : (b : Bool) (h : List Entry) (caller epoch : ℕ) (command : Command) (a : Answer) → MatchBool b (IsAnswerWithoutParents h caller command (Done a)) (IsAnswer h caller epoch command (Done a)) → (reading : Reading) → Reads reading h →
    IsAnswerBy reading h caller command (Done a)
done_whenever true h caller epoch command a answer reading reads = absurd (not_done (refused_by reading h caller command) a (answer reading reads))
done_whenever false h caller epoch command a answer reading reads = done_by reading h caller epoch command (Done a) (answer reading reads)

done_in : (h : List Entry) (asking : Asking) (command : Command) (reply : Reply) → IsAnswerIn h asking command reply → (reading : Reading) → Reads reading h → IsDoneBy reading h asking.caller command reply
done_in h asking command (Done a) answer reading reads = done_whenever (nat_lt asking.version 2 && puts_parent command) h asking.caller asking.epoch command a answer reading reads
done_in h asking command _ answer reading reads = tt

pub done_of : (e : Entry) (h : List Entry) → IsHistory (e ∷ h) → (reading : Reading) → Reads reading h → IsDoneBy reading h e.identity.caller e.command e.reply
done_of e h history reading reads = done_in h (asking_of e) e.command e.reply history.1 reading reads

-- the reading of one entry more
reading_of_one : (h : List Entry) (reading : Reading) → Reads reading h → (caller : ℕ) (command : Command) (reply : Reply) → IsDoneBy reading h caller command reply →
    (more : Reading) × IsReadRight more (if_done reply command) × Reads more h
reading_of_one h reading reads caller (PutProject project text) (Done a) answer =
    let put = put_file reading h caller project text a answer in
    (reading_with reading text put.0, read_with reading text put.0 put.1 text (inl ((bytes_eq-Decides text text).1 refl)), reads_with reading text put.0 put.1 h reads)
reading_of_one h reading reads caller _ (Done a) answer = (reading, tt, reads)
reading_of_one h reading reads caller command _ answer = (reading, tt, reads)

-- each history has a reading
pub reading_of : (h : List Entry) → IsHistory h → (reading : Reading) × Reads reading h
reading_of [] history = (λ text. no_file, tt)
reading_of (e ∷ h) history =
    let before = reading_of h history.3 in
    let now = reading_of_one h before.0 before.1 e.identity.caller e.command e.reply (done_of e h history before.0 before.1) in
    (now.0, (now.1, now.2))

-- a text that a command puts, or one from before
put_before : (b : Bool) (given text : List ℕ) (before : Option (List ℕ)) → cond b (Some given) before ≡ Some text → ((b ≡ true) × (given ≡ text)) ⊎ (before ≡ Some text)
put_before true given text before is = inl (refl, cc)
put_before false given text before is = inr is

read_by : (reading : Reading) (o : Option Command) (project text : List ℕ) (before : Option (List ℕ)) → IsReadRight reading o → (before ≡ Some text → IsRead text (reading text)) →
    text_put o project before ≡ Some text → IsRead text (reading text)
read_by reading (Some (PutProject given put)) project text before right later is = ⊎_elim
    (λ (here : (bytes_eq given project ≡ true) × (put ≡ text)). subst (λ t. IsRead t (reading t)) here.1 right)
    (λ (there : before ≡ Some text). later there)
    (put_before (bytes_eq given project) put text before is)
read_by reading _ project text before right later is = later is

-- the text of a project's file is read right
pub read_of : (reading : Reading) (h : List Entry) (project text : List ℕ) → Reads reading h → file_text h project ≡ Some text → IsRead text (reading text)
read_of reading [] project text reads is = absurd (cc)
read_of reading (e ∷ h) project text reads is = read_by reading (accepted e) project text (file_text h project) reads.0 (λ before. read_of reading h project text reads.1 before) is

-- a history has no more requests than may be
pub history_length : (h : List Entry) → IsHistory h → length h ≤ most_requests
history_length [] history = omega arith
history_length (e ∷ h) history = let below = history.2 in omega arith
