-- Deliveries that each act at most once: which are first arrivals, what history they leave, and which replies are right.
use Rattle.std.specs.Prelude.{[], List, ◌∷◌, Bool, is_some, ◌||◌, if◌then◌else◌, ℕ, ◌<◌, ◌≡◌, length, ◌⊎◌, Option, Some, None, true, false, take, slice_index_or, ◌++◌, ◌+◌, ◌≤◌, unwrap_or}
use Rattle.review_words.specs.History.{Entry, entry_of, stored, is_closed, IsFirst, Identity, latest, is_same, if_done}
use Rattle.review_words.specs.{Texts.content_text, Texts.reply_text, declared.command.Command.Command}
use Rattle.review_words.specs.declared.command.Delivery.{Delivery, TheVariants.Write, TheVariants.Read}
use Rattle.review_words.specs.declared.reply.NotTaken.{NotTaken as Cause}
use Rattle.review_words.specs.declared.reply.NotTaken.TheVariants.{Memory, Store, Damaged, Pattern, Full}
use Rattle.review_words.specs.declared.reply.Reply.{Reply}
use Rattle.review_words.specs.declared.reply.Reply.TheVariants.{Done, Refused, IdentityReused, EpochClosed, NotTaken}
use Rattle.review_machine_rows.specs.Answer.{most_requests, IsAnswer, IsHistory}
use Rattle.review_machine_rows.specs.Changes.{Reading, Reads}
use Rattle.review_machine_rows.specs.Decisions.{HasPatternIn, ReadsPattern, asking_project, IsDoneOrRefused}
use Rattle.review_machine_rows.specs.Questions.{IsQueryAnswer}
use Rattle.review_machine_rows.specs.Rows.{Tables, AnswerRow, Answered, Key, Count, ClosedEpochs, is_above, is_below, new_least}
use Rattle.review_machine_rows.specs.Shelf.{greatest_count, Shown, Views, StopLeavesOwnTables, Shows, Answers, LeavesBy, IsClosedIn}
use Rattle.review_machine_rows.specs.View.{IsView, answer_row}
use Rattle.review_machine_deliveries.specs.Formed.{AreFormed}

-- These entries with that of a write in front, where it was taken. Taken is here what isn't told NotTaken; of these, a clash and a write whose epoch is closed store nothing, and
-- `history_after` passes them over.
abbrev pub with_write : Reply → Entry → List Entry → List Entry
with_write (NotTaken cause) e es = es
with_write (Done a) e es = e ∷ es
with_write (Refused r) e es = e ∷ es
with_write IdentityReused e es = e ∷ es
with_write EpochClosed e es = e ∷ es

-- the same of any delivery; a question stores nothing
abbrev pub with_taken : Delivery → Reply → List Entry → List Entry
with_taken (Write caller epoch id command) reply es = with_write reply (entry_of caller epoch id command reply) es
with_taken (Read caller query) reply es = es

-- the writes that were taken, as entries with their replies: those whose reply isn't NotTaken
abbrev pub taken : List Delivery → List Reply → List Entry
taken [] rs = []
taken (d ∷ ds) [] = []
taken (d ∷ ds) (r ∷ rs) = with_taken d r (taken ds rs)

-- whether the identity of an entry stands among others
abbrev pub has_identity : List Entry → Entry → Bool
has_identity h e = is_some (stored h e.identity)

-- Those of a list in the order of arrival whose identity stands neither in the history nor among the earlier ones.
abbrev pub arrivals_after : List Entry → List Entry → List Entry → List Entry
arrivals_after h0 earlier [] = []
arrivals_after h0 earlier (e ∷ es) =
    if has_identity h0 e || has_identity earlier e then arrivals_after h0 (e ∷ earlier) es else e ∷ arrivals_after h0 (e ∷ earlier) es

-- the first arrivals of a list: repeats, and what the history has already, are deleted
abbrev pub first_arrivals : List Entry → List Entry → List Entry
first_arrivals h0 es = arrivals_after h0 [] es

-- The history with these entries, one after the other; one whose epoch is closed by then is passed over.
abbrev pub with_entries : List Entry → List Entry → List Entry
with_entries h0 [] = h0
with_entries h0 (e ∷ es) = if is_closed h0 e.identity.epoch then with_entries h0 es else with_entries (e ∷ h0) es

-- the history after deliveries that got these replies: each taken request whose epoch was open at its first arrival stands once, at that
abbrev pub history_after : List Entry → List Delivery → List Reply → List Entry
history_after h0 ds rs = with_entries h0 (first_arrivals h0 (taken ds rs))

-- Why a delivery may be not taken, where the count of faults went from before to after: want of memory; a fault of the store, which was counted, or the count stands at its greatest; for a first arrival
-- a pattern that its command reads, or that the last number is given; for a question a pattern in the file by which it is answered; and never damage.
abbrev pub IsLawful : List Entry → Delivery → Cause → ℕ → ℕ → Type 0
IsLawful h d Memory before after = after ≡ before
IsLawful h d Store before after = (before < after) ⊎ ((before ≡ greatest_count) × (after ≡ before))
IsLawful h d Damaged before after = ⊥
IsLawful h (Write caller epoch id command) Pattern before after = IsFirst h (record { caller = caller; epoch = epoch; id = id }) × ((reading : Reading) → Reads reading h → ReadsPattern reading h command) × (after ≡ before)
IsLawful h (Write caller epoch id command) Full before after = IsFirst h (record { caller = caller; epoch = epoch; id = id }) × (length h ≡ most_requests) × (after ≡ before)
IsLawful h (Read caller query) Pattern before after = ((reading : Reading) → Reads reading h → HasPatternIn h (asking_project reading h query)) × (after ≡ before)
IsLawful h (Read caller query) Full before after = ⊥

-- what a write is told whose identity is stored: the stored reply where the command is the same, otherwise that the identity is used
pub record IsToldOfStored (e : Entry) (command : Command) (reply : Reply) : Type 0 where
  pub equal : command ≡ e.command → reply ≡ e.reply
  pub other : (command ≡ e.command → ⊥) → reply ≡ IdentityReused

-- what a write is told, by whether its epoch is closed and what is stored under its identity
abbrev pub IsToldWhere : Bool → Option Entry → List Entry → ℕ → ℕ → Command → Reply → Type 0
IsToldWhere true o h caller epoch command reply = reply ≡ EpochClosed
IsToldWhere false None h caller epoch command reply = IsAnswer h caller epoch command reply
IsToldWhere false (Some e) h caller epoch command reply = IsToldOfStored e command reply

-- what a delivery is told after the history
abbrev pub IsTold : List Entry → Delivery → Reply → Type 0
IsTold h (Write caller epoch id command) reply = IsToldWhere (is_closed h epoch) (stored h (record { caller = caller; epoch = epoch; id = id })) h caller epoch command reply
IsTold h (Read caller query) reply = IsQueryAnswer h caller query reply

-- the right reply after the history, where a shelf has counted so many faults before and after
abbrev pub IsRight : List Entry → Delivery → Reply → ℕ → ℕ → Type 0
IsRight h d (NotTaken cause) before after = IsLawful h d cause before after
IsRight h d (Done a) before after = IsTold h d (Done a) × (after ≡ before)
IsRight h d (Refused r) before after = IsTold h d (Refused r) × (after ≡ before)
IsRight h d IdentityReused before after = IsTold h d IdentityReused × (after ≡ before)
IsRight h d EpochClosed before after = IsTold h d EpochClosed × (after ≡ before)

-- Each reply is right after the history that the deliveries before it left, where the count of faults went from one number to another
-- meanwhile; d, r and c are what an index past the end would give.
pub record AreRight (h0 : List Entry) (ds : List Delivery) (rs : List Reply) (counts : List (ℕ × ℕ)) : Type 0 where
  pub replies : length rs ≡ length ds
  pub counted : length counts ≡ length ds
  pub each : (i : ℕ) (d : Delivery) (r : Reply) (c : ℕ × ℕ) → i < length ds →
      IsRight (history_after h0 (take i ds) (take i rs)) (slice_index_or ds i d) (slice_index_or rs i r) (slice_index_or counts i c).0 (slice_index_or counts i c).1

-- the count of faults went from one number to another in these steps
abbrev pub CountsFollow : ℕ → List (ℕ × ℕ) → ℕ → Type 0
CountsFollow from [] to = to ≡ from
CountsFollow from (c ∷ cs) to = (c.0 ≡ from) × CountsFollow c.1 cs to

-- a first arrival of an open epoch
abbrev pub IsNew : List Entry → Delivery → Type 0
IsNew h (Write caller epoch id command) = IsFirst h (record { caller = caller; epoch = epoch; id = id })
IsNew h (Read caller query) = ⊥

-- the tables have the whole effect of a first arrival, and its answer
abbrev pub HasEffect : List Entry → Delivery → Tables → Type 0
HasEffect h (Write caller epoch id command) t = (reply : Reply) × IsHistory (entry_of caller epoch id command reply ∷ h) × IsView (entry_of caller epoch id command reply ∷ h) t
HasEffect h (Read caller query) t = ⊥

-- what one delivery does: the right reply, the tables of the history after it, and what a stop then may leave
pub record IsServed (h : List Entry) (d : Delivery) (reply : Reply) (old new : Shown) : Type 0 where
  pub right : IsRight h d reply old.faults new.faults
  pub history : IsHistory (history_after h (d ∷ []) (reply ∷ []))
  pub view : Views (history_after h (d ∷ []) (reply ∷ [])) new.tables
  pub stops : (t : Tables) → new.stops t → old.stops t ⊎ HasEffect h d t
  pub alone : IsNew h d → IsDoneOrRefused reply → StopLeavesOwnTables new

-- the tables of a history that goes on from this one, by requests whose identities have their forms
abbrev pub GoesOn : List Entry → Tables → Type 0
GoesOn h t = (more : List Entry) × AreFormed more × IsHistory (more ++ h) × IsView (more ++ h) t

-- a stop leaves only such tables
abbrev pub StopGoesOnFrom : List Entry → Shown → Type 0
StopGoesOnFrom h s = (t : Tables) → s.stops t → GoesOn h t

-- the write is an entry, with this reply, whatever version's rules gave it
abbrev pub IsEntered : Delivery → Reply → List Entry → Type 0
IsEntered (Write caller epoch id command) reply h = (e : Entry) × (stored h (record { caller = caller; epoch = epoch; id = id }) ≡ Some e) × (e.command ≡ command) × (e.reply ≡ reply)
IsEntered (Read caller query) reply h = Unit {0}

-- once it was told Done or Refused, a stop leaves only tables that are those of a history that has the write
abbrev pub StopHasEntry : Delivery → Reply → Shown → Type 0
StopHasEntry d reply s = IsDoneOrRefused reply → (t : Tables) → s.stops t → (h : List Entry) × IsHistory h × IsView h t × IsEntered d reply h

-- the tables after some first part of the deliveries and the whole effect of the next
abbrev pub StopsWithin : List Entry → List Delivery → List Reply → Tables → Type 0
StopsWithin h0 ds rs t = (i : ℕ) × (d : Delivery) × (i < length ds) × HasEffect (history_after h0 (take i ds) (take i rs)) (slice_index_or ds i d) t

-- what a whole run does: right replies, the tables of the history after all of it, and what a stop then may leave
pub record IsRun (h0 : List Entry) (ds : List Delivery) (rs : List Reply) (old new : Shown) : Type 0 where
  pub history : IsHistory (history_after h0 ds rs)
  pub view : Views (history_after h0 ds rs) new.tables
  pub counts : List (ℕ × ℕ)
  pub right : AreRight h0 ds rs counts
  pub follow : CountsFollow old.faults counts new.faults
  -- a stop leaves what it could leave at the start, or the tables with the whole effect of a first arrival among these
  pub stops : (t : Tables) → new.stops t → old.stops t ⊎ StopsWithin h0 ds rs t
  pub since : StopGoesOnFrom h0 old → StopGoesOnFrom (history_after h0 ds rs) new

-- the epoch of the identity is open, and under it a request is stored of which this is true
abbrev pub HasStored : Identity → Option Tables → (AnswerRow → Type 0) → Type 0
HasStored i tables IsSo = Shows tables (λ t. (row : AnswerRow) × Answers t i (Some (Answered row)) × IsSo row)

-- the stored request has this command and this reply
abbrev pub HasTexts : Command → Reply → AnswerRow → Type 0
HasTexts command reply row = (row.content ≡ content_text command) × (row.reply ≡ reply_text reply)

-- the stored request has another command
abbrev pub HasOtherContent : Command → AnswerRow → Type 0
HasOtherContent command row = row.content ≡ content_text command → ⊥

-- On any tables whatever: a write is not taken for a full history only where its epoch is open, its identity new and the last number given.
abbrev pub IsFullWhereSaid : Identity → Cause → Option Tables → Type 0
IsFullWhereSaid i Full tables = Shows tables (λ t. Answers t i None × (most_requests ≤ t.requests))
IsFullWhereSaid i _ tables = Unit {0}

-- On any tables whatever: what is not taken leaves them, though a store fault may shut the store; so does a clash, where the identity is stored with another command, a write whose epoch
-- is closed in them, and each question, which is told neither of the two. A full history is told of a write alone, and only where it is so.
abbrev pub KeepsUntaken : Delivery → Reply → Option Tables → Option Tables → Type 0
KeepsUntaken (Write caller epoch id command) IdentityReused old new = HasStored (record { caller = caller; epoch = epoch; id = id }) old (HasOtherContent command) × (new ≡ old)
KeepsUntaken (Write caller epoch id command) (NotTaken cause) old new = IsFullWhereSaid (record { caller = caller; epoch = epoch; id = id }) cause old × LeavesBy cause old new
KeepsUntaken (Write caller epoch id command) EpochClosed old new = Shows old (λ t. IsClosedIn t epoch) × (new ≡ old)
KeepsUntaken (Write caller epoch id command) _ old new = Unit {0}
KeepsUntaken (Read caller query) (NotTaken Full) old new = ⊥
KeepsUntaken (Read caller query) (NotTaken cause) old new = LeavesBy cause old new
KeepsUntaken (Read caller query) IdentityReused old new = ⊥
KeepsUntaken (Read caller query) EpochClosed old new = ⊥
KeepsUntaken (Read caller query) _ old new = new ≡ old

-- no row and no count is changed
abbrev pub SameRows : Tables → Tables → Type 0
SameRows t u = ((k : Key) → u.row k ≡ t.row k) × ((c : Count) → u.count c ≡ t.count c)

-- a refusal changes no row and no count
abbrev pub KeepsRows : Reply → Tables → Tables → Type 0
KeepsRows (Refused r) t u = SameRows t u
KeepsRows _ t u = Unit {0}

-- the row of a request that is answered so, under the number after these many
abbrev pub next_row : Identity → Command → Reply → ℕ → AnswerRow
next_row i command reply requests = answer_row (record { identity = i; version = latest; command = command; reply = reply }) (requests + 1)

-- A request that was stored.
pub record StoresRequest (i : Identity) (command : Command) (reply : Reply) (t u : Tables) : Type 0 where
  -- its epoch was open and it was new
  pub was_new : Answers t i None
  -- there was a number left for it
  pub room : t.requests < most_requests
  -- its epoch is open, and it is stored with its reply under the next number
  pub stands : Answers u i (Some (Answered (next_row i command reply t.requests)))
  pub requests : u.requests ≡ t.requests + 1
  -- the other requests stay, but that an accepted CloseEpoch gives up those of lower epochs than it names
  pub others : (j : Identity) → is_same i j ≡ false → u.answer j ≡ (if is_below (new_least (if_done reply command)) j.epoch then None else t.answer j)
  -- nothing but an accepted CloseEpoch changes the least open epoch, and it makes the one that it names so, which is above it: no epoch opens again
  pub least : u.count ClosedEpochs ≡ unwrap_or (new_least (if_done reply command)) (t.count ClosedEpochs)
  pub rises : is_above (new_least (if_done reply command)) (t.count ClosedEpochs) ≡ true
  -- a refusal changes no row and no count
  pub rows : KeepsRows reply t u
  pub version : u.version ≡ t.version

-- the identity was stored with this command and this reply, and nothing is changed; or the request is stored
abbrev pub IsFoundOrStored : Identity → Command → Reply → Option Tables → Option Tables → Type 0
IsFoundOrStored i command reply old new =
    (HasStored i old (HasTexts command reply) × (new ≡ old)) ⊎ Shows old (λ t. Shows new (StoresRequest i command reply t))

-- On any tables whatever: after Done and Refused the request stands in them once, with this reply.
abbrev pub StoresOnce : Delivery → Reply → Option Tables → Option Tables → Type 0
StoresOnce (Write caller epoch id command) (Done a) old new = IsFoundOrStored (record { caller = caller; epoch = epoch; id = id }) command (Done a) old new
StoresOnce (Write caller epoch id command) (Refused r) old new = IsFoundOrStored (record { caller = caller; epoch = epoch; id = id }) command (Refused r) old new
StoresOnce d _ old new = Unit {0}

-- On any tables whatever: a run is made of such steps, one a delivery.
abbrev pub AreSteps : List Delivery → List Reply → Option Tables → Option Tables → Type 0
AreSteps [] [] old new = new ≡ old
AreSteps [] (r ∷ rs) old new = ⊥
AreSteps (d ∷ ds) [] old new = ⊥
AreSteps (d ∷ ds) (r ∷ rs) old new = (between : Option Tables) × KeepsUntaken d r old between × StoresOnce d r old between × AreSteps ds rs between new

-- On any shelf whatever: a store fault is answered only where the count rose or stood at its greatest value, and with any other reply the count stays.
abbrev pub CountsReply : Reply → ℕ → ℕ → Type 0
CountsReply (NotTaken Store) before after = (before < after) ⊎ ((before ≡ greatest_count) × (after ≡ before))
CountsReply _ before after = after ≡ before

-- On any shelf whatever: so it is of each reply, one after the other, as the count went from one number to another.
abbrev pub CountsReplies : List Reply → ℕ → ℕ → Type 0
CountsReplies [] before after = after ≡ before
CountsReplies (r ∷ rs) before after = (between : ℕ) × CountsReply r before between × CountsReplies rs between after

-- What a delivery was told and did, but for what a stop may leave afterwards. What is said of tables is said where the store returned what was written to it.
pub record IsReplied (d : Delivery) (reply : Reply) (old new : Shown) : Type 0 where
  pub honest : new.is_honest → old.is_honest
  -- from the tables of a history, the right reply and the tables of the history after it
  pub served : new.is_honest → (h : List Entry) → IsHistory h → Views h old.tables → IsServed h d reply old new
  -- on any tables whatever
  pub unchanged : new.is_honest → KeepsUntaken d reply old.tables new.tables
  pub once : new.is_honest → StoresOnce d reply old.tables new.tables
  pub counted : CountsReply reply old.faults new.faults
