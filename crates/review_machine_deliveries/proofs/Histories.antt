-- Histories with one more delivery: identities, tables, and what an answer rests on.
use Rattle.std.proofs.Common.{◌++◌, ◌∷◌, ◌||◌, ℕ, Bool, true, false, List, [], if◌then◌else◌, arith, ◌≡◌, ◌+◌, ◌≤◌, length, Option, Some, None, cond, refl, sym, ap, ◌∙◌, subst, ⊎_elim, inl, inr, eqb-true, eq-eqb, ◌==◌, ◌&&◌, MatchOption, nat_le, nat_lt, unwrap_or, bytes_eq, ◌<◌, Result, Ok, Err}
use Rattle.std.proofs.lemmas.Bool.{and_parts, and_from, cases_Bool}
use Rattle.review_words.specs.History.{Entry, entry_of, is_closed, Identity, stored, is_same, latest, may_follow, version_of, least_open, if_done}
use Rattle.review_words.specs.Texts.{content_text, reply_text, IsStored}
use Rattle.review_words.specs.declared.command.Command.TheVariants.{PutProject, CloseEpoch, OnChange, Submit}
use Rattle.review_words.specs.declared.reply.NotTaken.{NotTaken as Cause}
use Rattle.review_words.specs.declared.reply.NotTaken.TheVariants.{Store, Pattern, Full}
use Rattle.review_words.specs.declared.reply.Reply.TheVariants.{Refused, IdentityReused, EpochClosed, NotTaken}
use Rattle.review_machine_rows.proofs.Asked.{requests_are}
use Rattle.review_machine_rows.proofs.Common.{Change, ChangeCommand, Command, Delivery, File, IsDoneOrRefused, NewPatch, Nothing, Read, Reading, Reads, Refusal, Reply, RestsOn, Write, bytes_eq-Decides, change}
use Rattle.review_machine_rows.proofs.Readings.{closed_stays, own_open, reading_of, IsToldDone, sent_or_done}
use Rattle.review_machine_rows.specs.Answer.{IsHistory, IsAnswer, IsAnswerBy, IsAnswerAt, epoch_checks, IsOf, IsOutcome, IsRequestOutcome, IsUploadAnswer, file_checks, first_refusal, refused_by, refused_or, most_requests}
use Rattle.review_machine_rows.specs.{Desks.facts_of, Known.Agrees, Known.known, Known.number_of}
use Rattle.review_machine_rows.specs.Rows.{AnswerRow, Stored, Answered, Tables, ClosedEpochs, after, count_after, is_below, Key, Count, HasNoEffect, new_least, is_above}
use Rattle.review_machine_rows.specs.Shelf.{IsCommitted, Answers, Shows, Views, LeavesBy, IsCounted, cause_of}
use Rattle.review_machine_rows.specs.Steps.{Topic, OfCommand, OfQuery}
use Rattle.review_machine_rows.specs.Submits.{IsSubmitAnswer, checked_reply}
use Rattle.review_machine_rows.specs.View.{AreEnough, IsView, IsViewBy, IsDecidedAt, view, fact, stored_answer, kept_answer, answer_row}
use Rattle.review_machine_rows.specs.declared.rows.{Delta.Delta, Rows.Rows, Want.TheVariants.Requests}
use Rattle.review_machine_rows.specs.declared.shelf.ShelfFault.{ShelfFault}
use Rattle.{review_machine_laws.proofs.Parents.history_from, review_machine_deliveries.proofs.Stored.entry_stored}
use Rattle.review_machine_deliveries.specs.Formed.{AllFormed, AreFormed, HasForm, IsFormed}
use Rattle.review_machine_deliveries.specs.Gathered.{IsAllAsked}
use Rattle.review_machine_deliveries.specs.Replies.{arrivals_after, first_arrivals, has_identity, history_after, taken, with_entries, with_taken, IsTold, IsToldWhere, with_entries as hist, StoresOnce, IsFoundOrStored, StoresRequest, next_row, KeepsRows, KeepsUntaken, CountsReply, HasStored, HasTexts, HasOtherContent}
use Rattle.review_machine_deliveries.specs.{declared.deliveries.Decided.Decided, inner.Deciding.WasDecided}
use Rattle.review_machine_deliveries.specs.inner.Words.{IsToldAgain, reply_of}
use Rattle.review_words.specs.declared.command.ChangeCommand.TheVariants as on
use Rattle.review_words.specs.declared.command.Query.TheVariants as asked
use Rattle.review_machine_rows.specs.declared.shelf.ShelfFault.TheVariants as fault

-- ==== histories of requests whose identities have their forms go on as such

-- an entry of the latest version
pub formed_entry : (caller epoch : ℕ) (id : List ℕ) (command : Command) (reply : Reply) (h : List Entry) → HasForm (record { caller = caller; epoch = epoch; id = id }) → AreFormed h → AreFormed (entry_of caller epoch id command reply ∷ h)
formed_entry caller epoch id command reply h form formed = (form, record { epoch = λ early. absurd (omega (arith, early)); closes_none = λ early. absurd (omega (arith, early)) }, formed)

taken_formed : (d : Delivery) (r : Reply) (es : List Entry) → IsFormed d → AreFormed es → AreFormed (with_taken d r es)
taken_formed (Read caller query) r es form formed = formed
taken_formed (Write caller epoch id command) (NotTaken cause) es form formed = formed
taken_formed (Write caller epoch id command) reply es form formed = formed_entry caller epoch id command reply es form formed

all_taken_formed : (ds : List Delivery) (rs : List Reply) → AllFormed ds → AreFormed (taken ds rs)
all_taken_formed [] rs all = tt
all_taken_formed (d ∷ ds) [] all = tt
all_taken_formed (d ∷ ds) (r ∷ rs) all = taken_formed d r (taken ds rs) all.0 (all_taken_formed ds rs all.1)

first_formed : (h0 history_from es : List Entry) → AreFormed es → AreFormed (arrivals_after h0 history_from es)
first_formed h0 history_from [] formed = tt
first_formed h0 history_from (e ∷ es) formed = either (has_identity h0 e || has_identity history_from e) (first_formed h0 (e ∷ history_from) es formed.2)
  where
    either : (b : Bool) → AreFormed (arrivals_after h0 (e ∷ history_from) es) → AreFormed (if b then arrivals_after h0 (e ∷ history_from) es else e ∷ arrivals_after h0 (e ∷ history_from) es)
    either true later = later
    either false later = (formed.0, formed.1, later)

entries_formed : (h0 es : List Entry) → AreFormed h0 → AreFormed es → AreFormed (with_entries h0 es)
entries_formed h0 [] before formed = before
entries_formed h0 (e ∷ es) before formed = either (is_closed h0 e.identity.epoch) (entries_formed h0 es before formed.2) (entries_formed (e ∷ h0) es (formed.0, formed.1, before) formed.2)
  where
    either : (b : Bool) → AreFormed (with_entries h0 es) → AreFormed (with_entries (e ∷ h0) es) → AreFormed (if b then with_entries h0 es else with_entries (e ∷ h0) es)
    either true passed stored = passed
    either false passed stored = stored

-- the history after deliveries of requests of their forms
pub history_formed : (ds : List Delivery) (rs : List Reply) (h : List Entry) → AllFormed ds → AreFormed h → AreFormed (history_after h ds rs)
history_formed ds rs h all formed = entries_formed h (first_arrivals h (taken ds rs)) formed (first_formed h [] (taken ds rs) (all_taken_formed ds rs all))

pub all_formed-append : (ds es : List Delivery) → AllFormed ds → AllFormed es → AllFormed (ds ++ es)
all_formed-append [] es one two = two
all_formed-append (d ∷ ds) es one two = (one.0, all_formed-append ds es one.1 two)

-- ==== identities in histories, and the tables of a history with one more entry

pub same_from : (a b : Identity) → is_same a b ≡ true → a ≡ b
same_from a b t =
    let p = and_parts (a.caller == b.caller) ((a.epoch == b.epoch) && bytes_eq a.id b.id) t in
    let q = and_parts (a.epoch == b.epoch) (bytes_eq a.id b.id) p.1 in
    λ k. record { caller = (eqb-true a.caller b.caller p.0) k; epoch = (eqb-true a.epoch b.epoch q.0) k; id = ((bytes_eq-Decides a.id b.id).0 q.1) k }

pub same_to : (a b : Identity) → a ≡ b → is_same a b ≡ true
same_to a b e =
    and_from (a.caller == b.caller) ((a.epoch == b.epoch) && bytes_eq a.id b.id) (eq-eqb a.caller b.caller (λ k. (e k).caller))
    (and_from (a.epoch == b.epoch) (bytes_eq a.id b.id) (eq-eqb a.epoch b.epoch (λ k. (e k).epoch)) ((bytes_eq-Decides a.id b.id).1 (λ k. (e k).id)))

pub stored_here : (e : Entry) (h : List Entry) (i : Identity) → is_same e.identity i ≡ true → stored (e ∷ h) i ≡ Some e
stored_here e h i t = ap (λ b. cond b (Some e) (stored h i)) t

pub stored_there : (e : Entry) (h : List Entry) (i : Identity) → is_same e.identity i ≡ false → stored (e ∷ h) i ≡ stored h i
stored_there e h i f = ap (λ b. cond b (Some e) (stored h i)) f

-- an answer is done or refused
file_given : (o : Option Refusal) → IsDoneOrRefused (refused_or o Nothing)
file_given None = tt
file_given (Some r) = tt

upload_given : (reading : Reading) (h : List Entry) (caller n : ℕ) (patch : NewPatch) (o : Option Change) (reply : Reply) → IsOf (λ c. IsUploadAnswer reading h caller n patch c reply) o → IsDoneOrRefused reply
upload_given reading h caller n patch None reply is = absurd is
upload_given reading h caller n patch (Some c) reply is = subst IsDoneOrRefused (sym is.reply_is) tt

request_given : (reading : Reading) (h : List Entry) (caller n : ℕ) (command : ChangeCommand) (reply : Reply) → IsRequestOutcome reading h caller n command reply → IsDoneOrRefused reply
request_given reading h caller n command reply is = ⊎_elim
    (λ (sent : (patch : NewPatch) × (command ≡ on.Upload patch)).
    upload_given reading h caller n sent.0 (change reading h n) reply (subst (λ x. IsRequestOutcome reading h caller n x reply) sent.1 is))
    (λ (done : IsToldDone command). subst IsDoneOrRefused (sym (done reading h caller n reply is)) tt)
    (sent_or_done command)

checked_given : (chain : List ℕ) (found : Option (ℕ × List ℕ)) → IsDoneOrRefused (checked_reply chain found)
checked_given chain None = tt
checked_given chain (Some found) = tt

submit_given : (reading : Reading) (h : List Entry) (n : ℕ) (o : Option Change) (reply : Reply) → IsOf (λ c. IsSubmitAnswer reading h n c reply) o → IsDoneOrRefused reply
submit_given reading h n None reply is = absurd is
submit_given reading h n (Some c) reply (inl bad) = subst IsDoneOrRefused (sym bad.reply_is) tt
submit_given reading h n (Some c) reply (inr good) = subst IsDoneOrRefused (sym good.reply_is) (checked_given good.chain good.found)

outcome_given : (reading : Reading) (h : List Entry) (caller : ℕ) (command : Command) (reply : Reply) → IsOutcome reading h caller command reply → IsDoneOrRefused reply
outcome_given reading h caller (PutProject project text) reply (inl f) = subst IsDoneOrRefused (sym f.2) tt
outcome_given reading h caller (PutProject project text) reply (inr f) =
    subst IsDoneOrRefused (sym f.2) (file_given (first_refusal (file_checks reading h project f.0)))
outcome_given reading h caller (OnChange n command) reply is = request_given reading h caller n command reply is
outcome_given reading h caller (Submit n) reply is = submit_given reading h n (change reading h n) reply is
outcome_given reading h caller _ reply is = subst IsDoneOrRefused (sym is) tt

pub answer_given_by : (reading : Reading) (h : List Entry) (caller : ℕ) (command : Command) (reply : Reply) → IsAnswerBy reading h caller command reply → IsDoneOrRefused reply
answer_given_by reading h caller command reply is = at (refused_by reading h caller command) is
  where
    at : (o : Option Refusal) → MatchOption o (IsOutcome reading h caller command reply) (λ refusal. reply ≡ Refused refusal) → IsDoneOrRefused reply
    at None is = outcome_given reading h caller command reply is
    at (Some r) is = subst IsDoneOrRefused (sym is) tt

closing_given : (reading : Reading) (h : List Entry) (caller epoch least : ℕ) (reply : Reply) → IsAnswerAt reading h caller epoch (CloseEpoch least) reply → IsDoneOrRefused reply
closing_given reading h caller epoch least reply is = at (refused_by reading h caller (CloseEpoch least)) is
  where
    at : (o : Option Refusal) → MatchOption o (reply ≡ refused_or (first_refusal (epoch_checks (facts_of reading h) epoch least)) Nothing) (λ refusal. reply ≡ Refused refusal) → IsDoneOrRefused reply
    at None is = subst IsDoneOrRefused (sym is) (file_given (first_refusal (epoch_checks (facts_of reading h) epoch least)))
    at (Some r) is = subst IsDoneOrRefused (sym is) tt

pub answer_given_in : (reading : Reading) (h : List Entry) (caller epoch : ℕ) (command : Command) (reply : Reply) → IsAnswerAt reading h caller epoch command reply → IsDoneOrRefused reply
answer_given_in reading h caller epoch (CloseEpoch least) reply is = closing_given reading h caller epoch least reply is
answer_given_in reading h caller epoch command reply is = answer_given_by reading h caller command reply is

pub answer_given : (h : List Entry) (caller epoch : ℕ) (command : Command) (reply : Reply) → IsHistory h → IsAnswer h caller epoch command reply → IsDoneOrRefused reply
answer_given h caller epoch command reply history is = let r = reading_of h history in answer_given_in r.0 h caller epoch command reply (is r.0 r.1)

-- a reply that is stored is done or refused
pub stored_given : (reply : Reply) → IsStored reply → IsDoneOrRefused reply
stored_given IdentityReused stored = absurd stored
stored_given EpochClosed stored = absurd stored
stored_given (NotTaken cause) stored = absurd stored
stored_given _ stored = tt

-- the latest version may follow each history
pub latest_follows : (h : List Entry) → IsHistory h → may_follow h latest ≡ true
latest_follows [] history = refl
latest_follows (e ∷ h) history =
    and_from (nat_le e.version latest) (nat_le latest latest) (and_parts (nat_le (version_of h) e.version) (nat_le e.version latest) history.4).1 refl

-- the entry of a stored answer
pub recalled : (h : List Entry) (a : AnswerRow) (i : Identity) → IsHistory h → stored_answer h i ≡ Some (Answered a) →
    (e : Entry) × (stored h i ≡ Some e) × (a.content ≡ content_text e.command) × (a.reply ≡ reply_text e.reply) × IsStored e.reply
recalled [] a i hist there = absurd (cc)
recalled (e ∷ h) a i hist there = ⊎_elim
    (λ (t : is_same e.identity i ≡ true).
    let is : Some (Answered (answer_row e (length h + 1))) ≡ Some (Answered a) = sym (ap (λ b. cond b (Some (Answered (answer_row e (length h + 1)))) (stored_answer h i)) t) ∙ there in
    let row : answer_row e (length h + 1) ≡ a = cc in (
      e,
      stored_here e h i t,
      sym (ap (λ (r : AnswerRow). r.content) row),
      sym (ap (λ (r : AnswerRow). r.reply) row),
      entry_stored e h hist,
    ))
    (λ (f : is_same e.identity i ≡ false).
    let r = recalled h a i hist.3 (sym (ap (λ b. cond b (Some (Answered (answer_row e (length h + 1)))) (stored_answer h i)) f) ∙ there) in
    (r.0, stored_there e h i f ∙ r.1, r.2, r.3, r.4))
    (cases_Bool (is_same e.identity i))

-- an identity with no stored answer is new
pub not_recalled : (h : List Entry) (i : Identity) → stored_answer h i ≡ None → stored h i ≡ None
not_recalled [] i none = refl
not_recalled (e ∷ h) i none = ⊎_elim
    (λ (t : is_same e.identity i ≡ true).
    let is : Some (Answered (answer_row e (length h + 1))) ≡ None = sym (ap (λ b. cond b (Some (Answered (answer_row e (length h + 1)))) (stored_answer h i)) t) ∙ none in absurd (cc))
    (λ (f : is_same e.identity i ≡ false).
    stored_there e h i f ∙ not_recalled h i (sym (ap (λ b. cond b (Some (Answered (answer_row e (length h + 1)))) (stored_answer h i)) f) ∙ none))
    (cases_Bool (is_same e.identity i))

-- an entry stays what is stored under its identity
pub stored_stays : (more h : List Entry) (i : Identity) (e : Entry) → IsHistory (more ++ h) → stored h i ≡ Some e → stored (more ++ h) i ≡ Some e
stored_stays [] h i e hist some = some
stored_stays (m ∷ more) h i e hist some =
    let there = stored_stays more h i e hist.3 some in ⊎_elim
    (λ (t : is_same m.identity i ≡ true).
    let none : stored (more ++ h) i ≡ None = subst (λ j. stored (more ++ h) j ≡ None) (same_from m.identity i t) hist.0.0 in
    absurd (cc))
    (λ (f : is_same m.identity i ≡ false). stored_there m (more ++ h) i f ∙ there)
    (cases_Bool (is_same m.identity i))

-- what is kept under an identity whose epoch is open is what is stored under it
pub kept_open : (h : List Entry) (i : Identity) → is_closed h i.epoch ≡ false → kept_answer h i ≡ stored_answer h i
kept_open h i opened = ap (λ b. cond b None (stored_answer h i)) opened

-- an entry whose epoch is closed is passed over, whether or not it came before
pub passed_over : (now : List Entry) (b : Bool) (e : Entry) (es : List Entry) → is_closed now e.identity.epoch ≡ true → hist now (cond b es (e ∷ es)) ≡ hist now es
passed_over now true e es closed = refl
passed_over now false e es closed = ap (λ c. cond c (hist now es) (hist (e ∷ now) es)) closed

-- what a write is told, where it is known whether its epoch is closed and what is stored under its identity
pub told_where : (h : List Entry) (caller epoch : ℕ) (id : List ℕ) (command : Command) (reply : Reply) (b : Bool) (o : Option Entry) → is_closed h epoch ≡ b →
    stored h (record { caller = caller; epoch = epoch; id = id }) ≡ o → IsTold h (Write caller epoch id command) reply → IsToldWhere b o h caller epoch command reply
told_where h caller epoch id command reply b o closed is told = subst (λ (x : Bool × Option Entry). IsToldWhere x.0 x.1 h caller epoch command reply) (λ k. (closed k, is k)) told

pub where_told : (h : List Entry) (caller epoch : ℕ) (id : List ℕ) (command : Command) (reply : Reply) (b : Bool) (o : Option Entry) → is_closed h epoch ≡ b →
    stored h (record { caller = caller; epoch = epoch; id = id }) ≡ o → IsToldWhere b o h caller epoch command reply → IsTold h (Write caller epoch id command) reply
where_told h caller epoch id command reply b o closed is told = subst (λ (x : Bool × Option Entry). IsToldWhere x.0 x.1 h caller epoch command reply) (λ k. (sym closed k, sym is k)) told

-- what is given up is what is closed by then
given_up : (o : Option ℕ) (n m epoch : ℕ) (x : Option Stored) → m ≡ unwrap_or o n → (nat_lt epoch n ≡ true → nat_lt epoch m ≡ true) →
    cond (is_below o epoch) None (cond (nat_lt epoch n) None x) ≡ cond (nat_lt epoch m) None x
given_up None n m epoch x is more = ap (λ k. cond (nat_lt epoch k) None x) (sym is)
given_up (Some least) n m epoch x is more =
    ap (λ k. cond (nat_lt epoch k) None (cond (nat_lt epoch n) None x)) (sym is) ∙ at (nat_lt epoch m) (nat_lt epoch n) more
  where
    at : (b c : Bool) → (c ≡ true → b ≡ true) → cond b None (cond c None x) ≡ cond b None x
    at true c up = refl
    at false false up = refl
    at false true up = absurd (let e = up refl in cc)

not_below : (o : Option ℕ) (n m epoch : ℕ) → m ≡ unwrap_or o n → nat_lt epoch m ≡ false → is_below o epoch ≡ false
not_below None n m epoch is opened = refl
not_below (Some least) n m epoch is opened = ap (nat_lt epoch) (sym is) ∙ opened

-- what is kept after one entry more, of an epoch that is open then
kept_with : (e : Entry) (h : List Entry) (o : Option ℕ) (i : Identity) → least_open (e ∷ h) ≡ unwrap_or o (least_open h) → is_closed (e ∷ h) e.identity.epoch ≡ false →
    cond (is_below o i.epoch) None (cond (is_same e.identity i) (Some (Answered (answer_row e (length h + 1)))) (kept_answer h i)) ≡ kept_answer (e ∷ h) i
kept_with e h o i is opened = ⊎_elim
    (λ (t : is_same e.identity i ≡ true).
    let here : is_closed (e ∷ h) i.epoch ≡ false = subst (λ (j : Identity). is_closed (e ∷ h) j.epoch ≡ false) (same_from e.identity i t) opened in
    ap (λ b. cond b None (cond (is_same e.identity i) new (kept_answer h i))) (not_below o (least_open h) (least_open (e ∷ h)) i.epoch is here)
    ∙ ap (λ b. cond b new (kept_answer h i)) t ∙ sym (kept_open (e ∷ h) i here ∙ ap (λ b. cond b new (stored_answer h i)) t))
    (λ (f : is_same e.identity i ≡ false).
    ap (λ b. cond (is_below o i.epoch) None (cond b new (kept_answer h i))) f ∙ given_up o (least_open h) (least_open (e ∷ h)) i.epoch (stored_answer h i) is (closed_stays e h i.epoch)
    ∙ sym (ap (λ b. cond (is_closed (e ∷ h) i.epoch) None (cond b new (stored_answer h i))) f))
    (cases_Bool (is_same e.identity i))
  where
    new : Option Stored
    new = Some (Answered (answer_row e (length h + 1)))

-- a commit of what was decided gives the tables of the history with the entry, where the epoch of the request was open
pub view_grows : (h : List Entry) (t new : Tables) (delta : Delta) (row : AnswerRow) (caller epoch : ℕ) (id : List ℕ) (command : Command) (reply : Reply) →
    IsView h t → is_closed h epoch ≡ false → ((reading : Reading) → Reads reading h → IsDecidedAt reading h caller epoch command delta reply) → IsCommitted t delta row new →
    row ≡ answer_row (entry_of caller epoch id command reply) (length h + 1) →
    IsView (entry_of caller epoch id command reply ∷ h) new
view_grows h t new delta row caller epoch id command reply view opened decided c is reading reads =
    let e : Entry = entry_of caller epoch id command reply in
    let v : IsViewBy reading h t = view reading reads.1 in
    let d : IsDecidedAt reading h caller epoch command delta reply = decided reading reads.1 in
    let row : t.row ≡ fact reading h = λ i k. v.row_is k i in
    record {
      row_is = λ k. c.row_is k ∙ (ap (after delta k) (v.row_is k) ∙ sym (d.row_is id k));
      count_is = λ n. c.count_is n ∙ ((λ i. count_after delta (row i) n (v.count_is n i)) ∙ sym (d.count_is id n));
      answer_is = λ i. c.answer_is i
          ∙ ((λ j. cond (is_below delta.least_epoch i.epoch) None (cond (is_same (is j).identity i) (Some (Answered (is j))) (v.answer_is i j)))
          ∙ kept_with e h delta.least_epoch i (d.count_is id ClosedEpochs) (own_open reading h caller epoch command reply d.reply_is opened));
      version = c.version ∙ v.version;
      requests = let x = c.requests in let y = v.requests in omega arith;
    }

-- what tables of a history say of an identity whose epoch is open in them
pub answers_are : (reading : Reading) (h : List Entry) (t : Tables) (i : Identity) (o : Option Stored) → IsViewBy reading h t → Answers t i o → (is_closed h i.epoch ≡ false) × (stored_answer h i ≡ o)
answers_are reading h t i o v has =
    let opened : is_closed h i.epoch ≡ false = ap (nat_lt i.epoch) (sym (v.count_is ClosedEpochs)) ∙ has.0 in
    (opened, sym (kept_open h i opened) ∙ sym (v.answer_is i) ∙ has.1)

-- the tables that are a history's view are its view
pub view_of : (reading : Reading) (h : List Entry) (t : Tables) → IsViewBy reading h t → t ≡ view reading h
view_of reading h t v = λ i. record {
  row = λ k. v.row_is k i;
  count = λ c. v.count_is c i;
  answer = λ a. v.answer_is a i;
  version = v.version i;
  requests = v.requests i;
}

-- rows that agree with the tables in use decide after the history whose view these are
pub enough_shown : (reading : Reading) (h : List Entry) (tables : Option Tables) (caller : ℕ) (topic : Topic) (file : Option File) (rows : Rows) → Reads reading h → Views h tables →
    Shows tables (λ t. Agrees t rows) → IsAllAsked caller topic file rows → AreEnough reading h caller topic file rows
enough_shown reading h None caller topic file rows reads v found asked = absurd found
enough_shown reading h (Some t) caller topic file rows reads v found asked = record {
  reads = reads;
  agree = subst (λ (u : Tables). Agrees u rows) (view_of reading h t (v reading reads)) found;
  file_is = asked.1;
  nothing_left = asked.0;
}

-- how many requests the history has, as rows say that decide after it
pub requests_told : (h : List Entry) (tables : Option Tables) (caller : ℕ) (command : Command) (file : Option File) (rows : Rows) → IsHistory h → Views h tables →
    Shows tables (λ t. Agrees t rows) → IsAllAsked caller (OfCommand command) file rows → number_of (known rows Requests) ≡ length h
requests_told h tables caller command file rows history v found asked =
    let r = reading_of h history in
    let enough = enough_shown r.0 h tables caller (OfCommand command) file rows r.1 v found asked in
    requests_are (view r.0 h) file rows caller command enough.agree asked.0

-- ==== what answers rest on

-- a history has all that an answer rests on
pub rests_on : (h : List Entry) (topic : Topic) → IsHistory h → RestsOn topic h
rests_on h (OfCommand (Submit change)) hist = hist
rests_on h (OfQuery (asked.Branch project branch)) hist = hist
rests_on h _ hist = tt

-- ==== what a delivery does to any tables whatever

kept : (reply : Reply) (delta : Delta) (t u : Tables) → HasNoEffect reply delta → ((k : Key) → u.row k ≡ after delta k (t.row k)) → ((c : Count) → u.count c ≡ count_after delta t.row c (t.count c)) → KeepsRows reply t u
kept (Refused r) delta t u none rows counts = (λ k. rows k ∙ none.rows k (t.row k), λ c. counts c ∙ none.counts t.row c (t.count c))
kept _ delta t u none rows counts = tt

-- what is stored is not given up at once
own_stays : (i j : Identity) (b : Bool) (x y : Option Stored) → (is_same i j ≡ true → b ≡ false) → cond b None (cond (is_same i j) x y) ≡ cond (is_same i j) x (cond b None y)
own_stays i j b x y own = at b (is_same i j) own
  where
    at : (b c : Bool) → (c ≡ true → b ≡ false) → cond b None (cond c x y) ≡ cond c x (cond b None y)
    at true true up = absurd (let e = up refl in cc)
    at true false up = refl
    at false c up = refl

-- the epoch of the request stays open
still_open : (o : Option ℕ) (least epoch : ℕ) → is_below o epoch ≡ false → nat_lt epoch least ≡ false → nat_lt epoch (unwrap_or o least) ≡ false
still_open None least epoch own opened = opened
still_open (Some n) least epoch own opened = own

-- a first arrival whose request was stored
stored_request : (i : Identity) (command : Command) (reply : Reply) (delta : Delta) (row : AnswerRow) (t u : Tables) → Answers t i None → HasNoEffect reply delta → delta.least_epoch ≡ new_least (if_done reply command) →
    is_below delta.least_epoch i.epoch ≡ false → is_above delta.least_epoch (t.count ClosedEpochs) ≡ true → t.requests < most_requests → IsCommitted t delta row u → row ≡ next_row i command reply t.requests → StoresRequest i command reply t u
stored_request i command reply delta row t u none quiet closes own above room c same = record {
  was_new = none;
  room = room;
  stands = (ap (nat_lt i.epoch) least ∙ still_open closed (t.count ClosedEpochs) i.epoch open_for_own none.0, answer_is i ∙ ap (λ b. cond b (Some (Answered (next_row i command reply t.requests))) (cond (is_below closed i.epoch) None (t.answer i))) (same_to i i refl));
  requests = c.requests;
  others = λ j other. answer_is j ∙ ap (λ b. cond b (Some (Answered (next_row i command reply t.requests))) (cond (is_below closed j.epoch) None (t.answer j))) other;
  least = least;
  rises = ap (λ o. is_above o (t.count ClosedEpochs)) (sym closes) ∙ above;
  rows = kept reply delta t u quiet c.row_is c.count_is;
  version = c.version;
}
  where
    closed : Option ℕ
    closed = new_least (if_done reply command)

    open_for_own : is_below closed i.epoch ≡ false
    open_for_own = ap (λ o. is_below o i.epoch) (sym closes) ∙ own

    least : u.count ClosedEpochs ≡ unwrap_or closed (t.count ClosedEpochs)
    least = c.count_is ClosedEpochs ∙ ap (λ o. unwrap_or o (t.count ClosedEpochs)) closes

    answer_is : (j : Identity) → u.answer j ≡ cond (is_same i j) (Some (Answered (next_row i command reply t.requests))) (cond (is_below closed j.epoch) None (t.answer j))
    answer_is j =
        c.answer_is j ∙ (λ k. cond (is_below (closes k) j.epoch) None (cond (is_same (same k).identity j) (Some (Answered (same k))) (t.answer j)))
        ∙ own_stays i j (is_below closed j.epoch) (Some (Answered (next_row i command reply t.requests))) (t.answer j)
        (λ here. ap (λ n. is_below closed n) (λ k. (sym (same_from i j here) k).epoch) ∙ open_for_own)

pub stored_shown : (i : Identity) (command : Command) (d : Decided) (row : AnswerRow) (old mid new : Option Tables) → mid ≡ old → Shows old (λ t. Answers t i None) → WasDecided i.caller i.epoch command old d →
    Shows mid (λ t. Shows new (IsCommitted t d.delta row)) → row ≡ answer_row (record { identity = i; version = latest; command = command; reply = d.reply }) d.request → IsFoundOrStored i command d.reply old new
stored_shown i command d row old mid new stays none by c is = inr (both old new none by (subst (λ (m : Option Tables). Shows m (λ t. Shows new (IsCommitted t d.delta row))) stays c))
  where
    both : (old new : Option Tables) → Shows old (λ t. Answers t i None) → WasDecided i.caller i.epoch command old d → Shows old (λ t. Shows new (IsCommitted t d.delta row)) →
        Shows old (λ t. Shows new (StoresRequest i command d.reply t))
    both None new none by c = absurd c
    both (Some t) None none by c = absurd c
    both (Some t) (Some u) none by c =
        let number : d.request ≡ t.requests + 1 = by.request.0 in
        let most : d.request ≤ most_requests = by.request.1 in
        stored_request i command d.reply d.delta row t u none by.refused by.closes by.own by.raises (omega arith) c
        (is ∙ ap (answer_row (record { identity = i; version = latest; command = command; reply = d.reply })) by.request.0)

pub stores_once : (caller epoch : ℕ) (id : List ℕ) (command : Command) (reply : Reply) (old new : Option Tables) →
    IsFoundOrStored (record { caller = caller; epoch = epoch; id = id }) command reply old new → StoresOnce (Write caller epoch id command) reply old new
stores_once caller epoch id command IdentityReused old new x = tt
stores_once caller epoch id command EpochClosed old new x = tt
stores_once caller epoch id command (NotTaken c) old new x = tt
stores_once caller epoch id command _ old new x = x

-- the row that an identity has
has_stored : (i : Identity) (row : AnswerRow) (IsSo : AnswerRow → Type 0) (tables : Option Tables) → Shows tables (λ t. Answers t i (Some (Answered row))) → IsSo row → HasStored i tables IsSo
has_stored i row IsSo None there so = absurd there
has_stored i row IsSo (Some t) there so = (row, there, so)

-- a request whose identity is stored
pub repeated : (caller epoch : ℕ) (id : List ℕ) (command : Command) (result : Result Reply Cause) (row : AnswerRow) (old new : Option Tables) →
    Shows old (λ t. Answers t (record { caller = caller; epoch = epoch; id = id }) (Some (Answered row))) → IsToldAgain row (content_text command) result → new ≡ old →
    StoresOnce (Write caller epoch id command) (reply_of result) old new
repeated caller epoch id command (Ok reply) row old new there (inl told) stays =
    stores_once caller epoch id command reply old new (inl (has_stored (record { caller = caller; epoch = epoch; id = id }) row (HasTexts command reply) old there (told.0, sym told.2), stays))
repeated caller epoch id command (Ok reply) row old new there (inr told) stays = subst (λ r. StoresOnce (Write caller epoch id command) r old new) (sym told.1) tt
repeated caller epoch id command (Err cause) row old new there told stays = tt

-- a reply that is stored is no clash
pub decided_keeps : (caller epoch : ℕ) (id : List ℕ) (command : Command) (reply : Reply) (old new : Option Tables) → IsStored reply → KeepsUntaken (Write caller epoch id command) reply old new
decided_keeps caller epoch id command IdentityReused old new s = absurd s
decided_keeps caller epoch id command EpochClosed old new s = absurd s
decided_keeps caller epoch id command (NotTaken c) old new s = absurd s
decided_keeps caller epoch id command _ old new s = tt

pub repeat_keeps : (caller epoch : ℕ) (id : List ℕ) (command : Command) (result : Result Reply Cause) (row : AnswerRow) (old new : Option Tables) →
    Shows old (λ t. Answers t (record { caller = caller; epoch = epoch; id = id }) (Some (Answered row))) → IsToldAgain row (content_text command) result → new ≡ old →
    KeepsUntaken (Write caller epoch id command) (reply_of result) old new
repeat_keeps caller epoch id command (Ok reply) row old new there (inl told) stays = decided_keeps caller epoch id command reply old new told.1
repeat_keeps caller epoch id command (Ok reply) row old new there (inr told) stays =
    subst (λ r. KeepsUntaken (Write caller epoch id command) r old new) (sym told.1)
    (has_stored (record { caller = caller; epoch = epoch; id = id }) row (HasOtherContent command) old there told.0, stays)
repeat_keeps caller epoch id command (Err Store) row old new there told stays = absurd told
repeat_keeps caller epoch id command (Err Pattern) row old new there told stays = absurd told
repeat_keeps caller epoch id command (Err Full) row old new there told stays = absurd told
repeat_keeps caller epoch id command _ row old new there told stays = (tt, stays)

-- what a fault of the shelf leaves
pub fault_keeps : (caller epoch : ℕ) (id : List ℕ) (command : Command) (f : ShelfFault) (old new : Option Tables) → LeavesBy (cause_of f) old new →
    KeepsUntaken (Write caller epoch id command) (NotTaken (cause_of f)) old new
fault_keeps caller epoch id command fault.Memory old new stays = (tt, stays)
fault_keeps caller epoch id command _ old new stays = (tt, stays)

-- an answer that is stored says nothing of faults
pub stored_counts : (reply : Reply) (before after : ℕ) → IsStored reply → after ≡ before → CountsReply reply before after
stored_counts IdentityReused before after s same = absurd s
stored_counts EpochClosed before after s same = absurd s
stored_counts (NotTaken c) before after s same = absurd s
stored_counts _ before after s same = same

-- a fault that a call of the shelf counted
pub fault_counts : (f : ShelfFault) (before after : ℕ) → IsCounted f before after → CountsReply (NotTaken (cause_of f)) before after
fault_counts fault.Memory before after c = c
fault_counts _ before after c = c
