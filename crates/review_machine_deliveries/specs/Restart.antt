-- Runs one after the other, and a run that begins again after a stop.
use Rattle.std.specs.Prelude.{ℕ, ◌≡◌, ◌⊎◌, List, [], ◌∷◌, ◌++◌, length, true, if◌then◌else◌}
use Rattle.review_words.specs.History.{Entry, is_closed}
use Rattle.review_words.specs.declared.command.Command.{Command, TheVariants.PutProject}
use Rattle.review_words.specs.declared.command.Delivery.{Delivery, TheVariants.Write, TheVariants.Read}
use Rattle.review_words.specs.declared.reply.{Refusal.TheVariants.BadFile, Reply.Reply}
use Rattle.review_words.specs.declared.reply.Reply.TheVariants.{Refused, EpochClosed, NotTaken}
use Rattle.review_file_rules.specs.Reading.{IsBadValue}
use Rattle.review_machine_rows.specs.{Answer.IsAnswer, Answer.IsHistory, Files.HasDeepPattern, Rows.Tables}
use Rattle.review_machine_rows.specs.{Shelf.Shown, Shelf.Views, Shelf.StaysOrShuts, Shelf.AddsNoStop, View.IsView}
use Rattle.review_machine_deliveries.specs.Replies.{AreRight, CountsFollow, HasEffect, IsRun, StopGoesOnFrom, StopsWithin, history_after, with_entries, first_arrivals}

-- it was taken
abbrev pub WasTaken : Reply → Type 0
WasTaken (NotTaken cause) = ⊥
WasTaken _ = Unit {0}

-- all were taken
abbrev pub WereTaken : List Reply → Type 0
WereTaken [] = Unit {0}
WereTaken (r ∷ rs) = WasTaken r × WereTaken rs

-- a write was told the same
abbrev pub AgreeFor : Delivery → Reply → Reply → Type 0
AgreeFor (Write caller epoch id command) r s = r ≡ s
AgreeFor (Read caller query) r s = Unit {0}

-- the two lists of replies are equal at each write
abbrev pub AgreeOnWrites : List Delivery → List Reply → List Reply → Type 0
AgreeOnWrites [] rs ss = Unit {0}
AgreeOnWrites (d ∷ ds) [] ss = Unit {0}
AgreeOnWrites (d ∷ ds) (r ∷ rs) [] = Unit {0}
AgreeOnWrites (d ∷ ds) (r ∷ rs) (s ∷ ss) = AgreeFor d r s × AgreeOnWrites ds rs ss

-- A write that was told this before was told it again, or, where its epoch is closed after the history, that it is closed.
abbrev pub AgreesAgain : List Entry → Delivery → Reply → Reply → Type 0
AgreesAgain h (Write caller epoch id command) r s = s ≡ (if is_closed h epoch then EpochClosed else r)
AgreesAgain h (Read caller query) r s = Unit {0}

-- Deliveries of two parts that came again after the history, in which the first part stood: each write of the first part was told the same again, or that its epoch is closed, and
-- each of the second part the same.
abbrev pub AgreeAfter : List Entry → List Delivery → List Delivery → List Reply → List Reply → Type 0
AgreeAfter h [] later rs ss = AgreeOnWrites later rs ss
AgreeAfter h (d ∷ ds) later [] ss = Unit {0}
AgreeAfter h (d ∷ ds) later (r ∷ rs) [] = Unit {0}
AgreeAfter h (d ∷ ds) later (r ∷ rs) (s ∷ ss) = AgreesAgain h d r s × AgreeAfter h ds later rs ss

-- a write was told the same in two runs; or its epoch is closed in the history that both left, and one of them told so
abbrev pub AgreesWhereOpen : List Entry → Delivery → Reply → Reply → Type 0
AgreesWhereOpen h (Write caller epoch id command) r s = (r ≡ s) ⊎ ((is_closed h epoch ≡ true) × ((r ≡ EpochClosed) ⊎ (s ≡ EpochClosed)))
AgreesWhereOpen h (Read caller query) r s = Unit {0}

-- so it is at each write of the two lists of replies
abbrev pub AgreeWhereOpen : List Entry → List Delivery → List Reply → List Reply → Type 0
AgreeWhereOpen h [] rs ss = Unit {0}
AgreeWhereOpen h (d ∷ ds) [] ss = Unit {0}
AgreeWhereOpen h (d ∷ ds) (r ∷ rs) [] = Unit {0}
AgreeWhereOpen h (d ∷ ds) (r ∷ rs) (s ∷ ss) = AgreesWhereOpen h d r s × AgreeWhereOpen h ds rs ss

-- A run of one list followed by a run of another is the run of both, also on another shelf with the same tables: the same history, and
-- replies that are right for both.
abbrev pub RunsCompose : Type 0
RunsCompose = (h0 : List Entry) (ds es : List Delivery) (rs ss : List Reply) (counts others : List (ℕ × ℕ)) →
    AreRight h0 ds rs counts → AreRight (history_after h0 ds rs) es ss others →
    (history_after h0 (ds ++ es) (rs ++ ss) ≡ history_after (history_after h0 ds rs) es ss) × AreRight h0 (ds ++ es) (rs ++ ss) (counts ++ others)

-- the fault counts of several sessions, as one list
abbrev pub all_counts : List (List (ℕ × ℕ)) → List (ℕ × ℕ)
all_counts [] = []
all_counts (counts ∷ later) = counts ++ all_counts later

-- In each session the counts of faults follow one another, from that of the shelf as the session found it to that of the shelf as it left it.
abbrev pub CountsFollowIn : List (ℕ × ℕ) → List (List (ℕ × ℕ)) → Type 0
CountsFollowIn [] [] = Unit {0}
CountsFollowIn (session ∷ sessions) (counts ∷ later) = CountsFollow session.0 counts session.1 × CountsFollowIn sessions later
CountsFollowIn sessions counts = ⊥

-- What a run of one session or more did, each given by the counts of faults of the shelf as it found it and as it left it; between two of them the shelf was closed
-- and opened again. It is what a run does, but that faults are counted session by session.
pub record IsRunAcross (h0 : List Entry) (ds : List Delivery) (rs : List Reply) (sessions : List (ℕ × ℕ)) (old new : Shown) : Type 0 where
  pub history : IsHistory (history_after h0 ds rs)
  pub view : Views (history_after h0 ds rs) new.tables
  pub counts : List (List (ℕ × ℕ))
  pub right : AreRight h0 ds rs (all_counts counts)
  pub follow : CountsFollowIn sessions counts
  pub stops : (t : Tables) → new.stops t → old.stops t ⊎ StopsWithin h0 ds rs t
  pub since : StopGoesOnFrom h0 old → StopGoesOnFrom (history_after h0 ds rs) new

-- a run by itself is one of a single session
abbrev pub RunIsSession : {S : Type 0} → (S → Shown) → Type 0
RunIsSession {S} state = (h0 : List Entry) (ds : List Delivery) (rs : List Reply) (s t : S) →
    IsRun h0 ds rs (state s) (state t) → IsRunAcross h0 ds rs (((state s).faults, (state t).faults) ∷ []) (state s) (state t)

-- A run of any number of sessions, and then, with the shelf closed and opened between them, one more run are such a run of the deliveries of both. Of the shelf
-- that was opened no more is known than that its tables are those of the shelf that was closed, unless it is shut, and that a stop leaves nothing that it could
-- not leave before.
abbrev pub RunsGoOn : {S : Type 0} → (S → Shown) → Type 0
RunsGoOn {S} state = (h0 : List Entry) (ds es : List Delivery) (rs ss : List Reply) (sessions : List (ℕ × ℕ)) (s t u v : S) →
    IsRunAcross h0 ds rs sessions (state s) (state t) → StaysOrShuts (state t).tables (state u).tables → AddsNoStop (state t) (state u) →
    ((h : List Entry) → IsHistory h → Views h (state u).tables → IsRun h es ss (state u) (state v)) →
    IsRunAcross h0 (ds ++ es) (rs ++ ss) (sessions ++ ((state u).faults, (state v).faults) ∷ []) (state s) (state v)

-- Requests that come again, after some first part of them stood, give the history of the whole: those whose epoch was closed meanwhile are passed over. An entry carries the
-- reply that was given, so a choice that was made stays.
abbrev pub RestartKeepsHistory : Type 0
RestartKeepsHistory = (h0 es1 es2 : List Entry) →
    with_entries (with_entries h0 (first_arrivals h0 es1)) (first_arrivals (with_entries h0 (first_arrivals h0 es1)) (es1 ++ es2)) ≡ with_entries h0 (first_arrivals h0 (es1 ++ es2))

-- Two runs of the same deliveries, all of them taken, that leave the same history gave the same replies to writes, but where one of them told that the epoch is closed, as it is in that history.
abbrev pub RepliesFollowHistory : Type 0
RepliesFollowHistory = (h0 h last : List Entry) (ds : List Delivery) (rs ss : List Reply) (counts others : List (ℕ × ℕ)) → IsHistory last →
    AreRight h0 ds rs counts → WereTaken rs → AreRight h ds ss others → WereTaken ss →
    last ≡ history_after h0 ds rs → last ≡ history_after h ds ss → AgreeWhereOpen last ds rs ss

-- a command whose answer is free: it puts a project file with a pattern that nests deeper than the pattern engine reads
abbrev pub IsFree : Command → Type 0
IsFree (PutProject project text) = HasDeepPattern text
IsFree _ = ⊥

-- it refuses a file for a bad value in an expression
abbrev pub RefusesBadValue : Reply → Type 0
RefusesBadValue (Refused (BadFile fault)) = IsBadValue fault
RefusesBadValue _ = ⊥

-- A command has one answer after a history, unless its answer is free: then of two different ones, one refuses the file for a bad value in an expression.
abbrev pub OneAnswer : Type 0
OneAnswer = (h : List Entry) (caller epoch : ℕ) (command : Command) (r s : Reply) → IsHistory h → IsAnswer h caller epoch command r → IsAnswer h caller epoch command s →
    (r ≡ s) ⊎ (IsFree command × (RefusesBadValue r ⊎ RefusesBadValue s))

-- a delivery whose answer leaves no choice
abbrev pub IsSettled : Delivery → Type 0
IsSettled (Write caller epoch id command) = IsFree command → ⊥
IsSettled (Read caller query) = Unit {0}

-- all are such deliveries
abbrev pub AreSettled : List Delivery → Type 0
AreSettled [] = Unit {0}
AreSettled (d ∷ ds) = IsSettled d × AreSettled ds

-- Where the rest of a run leaves no choice: where some first part of a run stood when it stopped, the whole run from there gives the same
-- history, the same replies to the writes of the rest, and to those of the first part the same or, where its epoch was closed meanwhile, that it is closed.
abbrev pub RestartCompletes : Type 0
RestartCompletes = (h0 h : List Entry) (ds1 ds2 : List Delivery) (rs1 rs2 ss : List Reply) (counts others : List (ℕ × ℕ)) →
    IsHistory h → h ≡ history_after h0 ds1 rs1 → length rs1 ≡ length ds1 → AreSettled ds2 →
    AreRight h0 (ds1 ++ ds2) (rs1 ++ rs2) counts → WereTaken (rs1 ++ rs2) → AreRight h (ds1 ++ ds2) ss others → WereTaken ss →
    AgreeAfter h ds1 ds2 (rs1 ++ rs2) ss × (history_after h (ds1 ++ ds2) ss ≡ history_after h0 (ds1 ++ ds2) (rs1 ++ rs2))

-- Deliveries of two parts that are all taken from the history h, in which the first part stood, leave the history of some run of them from h0, and give its replies to writes, but
-- where in the first part an epoch was closed meanwhile.
abbrev pub RunsAsFrom : List Entry → List Entry → List Delivery → List Delivery → Type 0
RunsAsFrom h0 h ds1 ds2 = (ss : List Reply) (others : List (ℕ × ℕ)) → AreRight h (ds1 ++ ds2) ss others → WereTaken ss →
    (rs : List Reply) × (counts : List (ℕ × ℕ)) × AreRight h0 (ds1 ++ ds2) rs counts × WereTaken rs × AgreeAfter h ds1 ds2 rs ss
    × (history_after h (ds1 ++ ds2) ss ≡ history_after h0 (ds1 ++ ds2) rs)

-- Where some first part of a run stood, all of it taken, the whole run from there is as one from the start: what was answered stays, choices
-- included.
abbrev pub RestartIsRun : Type 0
RestartIsRun = (h0 h : List Entry) (ds1 ds2 : List Delivery) (rs1 : List Reply) (counts : List (ℕ × ℕ)) →
    IsHistory h → h ≡ history_after h0 ds1 rs1 → AreRight h0 ds1 rs1 counts → WereTaken rs1 → RunsAsFrom h0 h ds1 ds2

-- What a stop left within deliveries that were all taken (the whole effect of one of them, after those before it) are the tables of a history
-- from which these deliveries and any more, sent again, are as a run from the start.
abbrev pub RestartAfterStop : Type 0
RestartAfterStop = (h0 : List Entry) (ds more : List Delivery) (rs : List Reply) (counts : List (ℕ × ℕ)) (left : Tables) →
    AreRight h0 ds rs counts → WereTaken rs → StopsWithin h0 ds rs left →
    (h : List Entry) × IsHistory h × IsView h left
    × (stood : List Delivery) × (later : List Delivery) × (stood ++ later ≡ ds ++ more) × RunsAsFrom h0 h stood later

-- The same of what a stop left within a delivery behind others that were all taken, which nobody was told the reply of: its whole effect.
abbrev pub RestartAfterCut : Type 0
RestartAfterCut = (h0 : List Entry) (ds : List Delivery) (d : Delivery) (more : List Delivery) (rs : List Reply) (counts : List (ℕ × ℕ)) (left : Tables) →
    AreRight h0 ds rs counts → WereTaken rs → HasEffect (history_after h0 ds rs) d left →
    (h : List Entry) × IsHistory h × IsView h left × RunsAsFrom h0 h (ds ++ d ∷ []) more
