-- What one delivery does, and that its history has a reading.
use Rattle.std.proofs.Common.{◌≡◌, ℕ, ◌+◌, ◌<◌, List, [], ◌∷◌, ◌++◌, length, Option, Some, None, Bool, true, false, cond, ◌||◌, refl, sym, ap, ◌∙◌, subst, inl, inr, ⊎_elim, ◌⊎◌, Result, Ok, Err, is_some, IfOk, IfErr, nat_lt, IsErr, IsErrAnd, bytes_eq}
use Rattle.review_words.specs.History.{Entry, Identity, IsFirst, stored, entry_of, is_closed, accepted}
use Rattle.review_words.specs.Texts.{content_text, reply_text, IsStored}
use Rattle.review_words.specs.declared.{command.Query.Query, reply.NotTaken.NotTaken as Cause}
use Rattle.review_words.specs.declared.reply.NotTaken.TheVariants.{Memory, Store, Damaged, Pattern, Full}
use Rattle.review_words.specs.declared.reply.Reply.TheVariants.{Done, Refused, IdentityReused, EpochClosed, NotTaken}
use Rattle.review_words_texts.proofs.Fields.{content_text_injective, reply_text_injective}
use Rattle.review_machine_rows.proofs.Common.{Agrees, Command, Delivery, File, IsRead, IsReadRight, OfQuery, PutProject, Read, Reading, Reads, Reply, Write, bytes_eq-Decides, cases_Bool}
use Rattle.review_machine_rows.proofs.Readings.{put_file, reading_of, IsDoneBy, done_by}
use Rattle.review_machine_rows.specs.Answer.{IsHistory, IsAnswer, most_requests}
use Rattle.review_machine_rows.specs.Decisions.{IsUnshown, IsDoneOrRefused, RestsOn}
use Rattle.review_machine_rows.specs.Questions.{IsQueryAnswer, IsQueryAnswerBy}
use Rattle.review_machine_rows.specs.Rows.{AnswerRow, Answered, Tables, ClosedEpochs}
use Rattle.review_machine_rows.specs.Shelf.{Answers, IsCommitted, Shown, Shows, Views, LeavesBy, StopLeavesOwnTables, AddsNoStop, IsCounted, Blames, cause_of, IsClosedIn}
use Rattle.review_machine_rows.specs.View.{AreEnough, IsView, IsDecidedAt, answer_row}
use Rattle.review_machine_rows.specs.declared.{rows.Delta.Delta, rows.Rows.Rows, shelf.ShelfFault.ShelfFault}
use Rattle.review_machine_deliveries.proofs.Histories.{formed_entry, answers_are, passed_over, told_where, where_told, latest_follows, recalled, not_recalled, view_grows, answer_given, stored_given, enough_shown, stored_stays, stored_here, same_to, answer_given_in, rests_on}
use Rattle.review_machine_deliveries.specs.{Formed.IsFormed, Gathered.IsAllAsked, Gathered.IsUngathered}
use Rattle.review_machine_deliveries.specs.Replies.{history_after, has_identity, with_entries as hist, IsRight, IsTold, IsToldOfStored, IsServed, IsLawful, IsNew, HasEffect, StopGoesOnFrom, StopHasEntry, IsEntered, GoesOn, KeepsUntaken, CountsReply}
use Rattle.review_machine_deliveries.specs.inner.Words.{IsToldAgain, reply_of}
use Rattle.review_machine_rows.specs.declared.shelf.ShelfFault.TheVariants as fault

-- ==== what one delivery does

-- a new identity of an open epoch adds its entry, an old one nothing, and one of a closed epoch nothing
pub new_history : (h : List Entry) (caller epoch : ℕ) (id : List ℕ) (command : Command) (reply : Reply) → IsDoneOrRefused reply → IsFirst h (record { caller = caller; epoch = epoch; id = id }) →
    history_after h (Write caller epoch id command ∷ []) (reply ∷ []) ≡ entry_of caller epoch id command reply ∷ h
new_history h caller epoch id command (Done a) s new =
    let e : Entry = entry_of caller epoch id command (Done a) in
    ap (λ o. hist h (cond (is_some o || false) [] (e ∷ []))) new.0 ∙ ap (λ b. cond b h (e ∷ h)) new.1
new_history h caller epoch id command (Refused a) s new =
    let e : Entry = entry_of caller epoch id command (Refused a) in
    ap (λ o. hist h (cond (is_some o || false) [] (e ∷ []))) new.0 ∙ ap (λ b. cond b h (e ∷ h)) new.1
new_history h caller epoch id command _ s new = absurd s

pub same_history : (h : List Entry) (caller epoch : ℕ) (id : List ℕ) (command : Command) (reply : Reply) (old : Entry) → stored h (record { caller = caller; epoch = epoch; id = id }) ≡ Some old →
    history_after h (Write caller epoch id command ∷ []) (reply ∷ []) ≡ h
same_history h caller epoch id command (NotTaken c) old some = refl
same_history h caller epoch id command reply old some =
    let e : Entry = entry_of caller epoch id command reply in
    ap (λ o. hist h (cond (is_some o || false) [] (e ∷ []))) some

pub closed_history : (h : List Entry) (caller epoch : ℕ) (id : List ℕ) (command : Command) (reply : Reply) → is_closed h epoch ≡ true →
    history_after h (Write caller epoch id command ∷ []) (reply ∷ []) ≡ h
closed_history h caller epoch id command (NotTaken c) closed = refl
closed_history h caller epoch id command reply closed = let e : Entry = entry_of caller epoch id command reply in passed_over h (has_identity h e || false) e [] closed

right_from_told : (h : List Entry) (d : Delivery) (reply : Reply) (before after : ℕ) → IsDoneOrRefused reply ⊎ (reply ≡ IdentityReused) → IsTold h d reply → after ≡ before → IsRight h d reply before after
right_from_told h d (NotTaken c) before after s told same =
    ⊎_elim (λ (x : IsDoneOrRefused (NotTaken c)). absurd x) (λ (x : NotTaken c ≡ IdentityReused). absurd (cc)) s
right_from_told h d _ before after s told same = (told, same)

-- what only reads leaves the history's tables
pub views_stay : (h : List Entry) (old new : Option Tables) → new ≡ old → Views h old → Views h new
views_stay h old new e v = subst (Views h) (sym e) v

-- what a fault of the shelf leaves views the history as before
views_left : (h : List Entry) (f : ShelfFault) (old new : Option Tables) → LeavesBy (cause_of f) old new → Views h old → Views h new
views_left h fault.Store old new (inl e) v = subst (Views h) (sym e) v
views_left h fault.Store old new (inr e) v = subst (Views h) (sym e) tt
views_left h _ old new e v = subst (Views h) (sym e) v

-- a call that only read, before the rest
pub after_read : (h : List Entry) (d : Delivery) (reply : Reply) (old mid new : Shown) → mid.faults ≡ old.faults → AddsNoStop old mid → IsServed h d reply mid new → IsServed h d reply old new
after_read h d reply old mid new same adds s = record {
  right = subst (λ n. IsRight h d reply n new.faults) same s.right;
  history = s.history;
  view = s.view;
  stops = λ t x. ⊎_elim (λ (y : mid.stops t). inl (adds t y)) (λ (e : HasEffect h d t). inr e) (s.stops t x);
  alone = s.alone;
}

-- a delivery that was not taken for a lawful cause
pub not_taken_served : (h : List Entry) (d : Delivery) (cause : Cause) (old new : Shown) →
    IsHistory h → Views h new.tables → IsLawful h d cause old.faults new.faults → ((t : Tables) → new.stops t → old.stops t ⊎ HasEffect h d t) → IsServed h d (NotTaken cause) old new
not_taken_served h (Write caller epoch id command) cause old new hist v lawful stops = record { right = lawful; history = hist; view = v; stops = stops; alone = λ n s. absurd s }
not_taken_served h (Read caller query) cause old new hist v lawful stops = record { right = lawful; history = hist; view = v; stops = stops; alone = λ n s. absurd n }

-- a question that was answered
pub read_served : (h : List Entry) (caller : ℕ) (query : Query) (reply : Reply) (old new : Shown) → IsHistory h → Views h old.tables → IsDoneOrRefused reply → IsQueryAnswer h caller query reply →
    new.tables ≡ old.tables → new.faults ≡ old.faults → AddsNoStop old new → IsServed h (Read caller query) reply old new
read_served h caller query reply old new hist v given told stays quiet adds = record {
  right = right_from_told h (Read caller query) reply old.faults new.faults (inl given) told quiet;
  history = hist;
  view = views_stay h old.tables new.tables stays v;
  stops = λ t x. inl (adds t x);
  alone = λ n s. absurd n;
}

-- a fault of the shelf is a lawful cause
lawful_fault : (h : List Entry) (d : Delivery) (f : ShelfFault) (tables : Option Tables) (before after : ℕ) → IsHistory h → Views h tables →
    Blames f tables → IsCounted f before after → IsLawful h d (cause_of f) before after
lawful_fault h d fault.Damaged None before after hist v blame counted = absurd blame
lawful_fault h d fault.Damaged (Some t) before after hist v blame counted = absurd (blame h hist v)
lawful_fault h d _ tables before after hist v blame counted = counted

-- a call of the shelf that failed
pub fault_served : (h : List Entry) (d : Delivery) (f : ShelfFault) (old new : Shown) → IsHistory h → Views h old.tables →
    LeavesBy (cause_of f) old.tables new.tables → Blames f old.tables → IsCounted f old.faults new.faults → ((t : Tables) → new.stops t → old.stops t ⊎ HasEffect h d t) →
    IsServed h d (NotTaken (cause_of f)) old new
fault_served h d f old new hist v stays blame counted stops =
    not_taken_served h d (cause_of f) old new hist (views_left h f old.tables new.tables stays v) (lawful_fault h d f old.tables old.faults new.faults hist v blame counted) stops

-- what a commit of what was decided leaves has the whole effect
pub effect : (h : List Entry) (tables : Option Tables) (new : Tables) (delta : Delta) (row : AnswerRow) (caller epoch : ℕ) (id : List ℕ) (command : Command) (reply : Reply) →
    IsHistory h → Views h tables → IsFirst h (record { caller = caller; epoch = epoch; id = id }) → length h < most_requests → ((reading : Reading) → Reads reading h → IsDecidedAt reading h caller epoch command delta reply) →
    row ≡ answer_row (entry_of caller epoch id command reply) (length h + 1) → Shows tables (λ was. IsCommitted was delta row new) → HasEffect h (Write caller epoch id command) new
effect h None new delta row caller epoch id command reply hist v first room d is c = absurd c
effect h (Some t) new delta row caller epoch id command reply hist v first room d is c =
    (reply, (first, (λ reading reads. (d reading reads).reply_is), room, hist, latest_follows h hist), view_grows h t new delta row caller epoch id command reply v first.1 d c is)

-- a first arrival that was committed
pub first_served : (h : List Entry) (delta : Delta) (row : AnswerRow) (caller epoch : ℕ) (id : List ℕ) (command : Command) (reply : Reply) (old new : Shown) →
    IsHistory h → Views h old.tables → IsFirst h (record { caller = caller; epoch = epoch; id = id }) → length h < most_requests → ((reading : Reading) → Reads reading h → IsDecidedAt reading h caller epoch command delta reply) →
    row ≡ answer_row (entry_of caller epoch id command reply) (length h + 1) → Shows old.tables (λ t. Shows new.tables (IsCommitted t delta row)) →
    StopLeavesOwnTables new → new.faults ≡ old.faults → ((t : Tables) → new.stops t → old.stops t ⊎ HasEffect h (Write caller epoch id command) t) →
    IsServed h (Write caller epoch id command) reply old new
first_served h delta row caller epoch id command reply old new hist v first room d is c alone same stops =
    let answer : IsAnswer h caller epoch command reply = λ reading reads. (d reading reads).reply_is in
    let s : IsDoneOrRefused reply = answer_given h caller epoch command reply hist answer in
    let grown = new_history h caller epoch id command reply s first in
    record {
      right = right_from_told h (Write caller epoch id command) reply old.faults new.faults (inl s)
          (where_told h caller epoch id command reply false None first.1 first.0 answer) same;
      history = subst IsHistory (sym grown) (first, answer, room, hist, latest_follows h hist);
      view = subst (λ x. Views x new.tables) (sym grown) (shown old.tables new.tables v c);
      stops = stops;
      alone = λ n r. alone;
    }
  where
    shown : (was now : Option Tables) → Views h was → Shows was (λ t. Shows now (IsCommitted t delta row)) → Views (entry_of caller epoch id command reply ∷ h) now
    shown None now v c = absurd c
    shown (Some t) None v c = absurd c
    shown (Some t) (Some u) v c = view_grows h t u delta row caller epoch id command reply v first.1 d c is

old_served : (h : List Entry) (caller epoch : ℕ) (id : List ℕ) (command : Command) (reply : Reply) (e : Entry) (old new : Shown) →
    IsHistory h → Views h new.tables → is_closed h epoch ≡ false → stored h (record { caller = caller; epoch = epoch; id = id }) ≡ Some e → IsDoneOrRefused reply ⊎ (reply ≡ IdentityReused) → IsToldOfStored e command reply →
    new.faults ≡ old.faults → AddsNoStop old new → IsServed h (Write caller epoch id command) reply old new
old_served h caller epoch id command reply e old new hist v opened some kind told same adds =
    let stays = same_history h caller epoch id command reply e some in
    record {
      right = right_from_told h (Write caller epoch id command) reply old.faults new.faults kind (where_told h caller epoch id command reply false (Some e) opened some told) same;
      history = subst IsHistory (sym stays) hist;
      view = subst (λ x. Views x new.tables) (sym stays) v;
      stops = λ t x. inl (adds t x);
      alone = λ (n : IsFirst h (record { caller = caller; epoch = epoch; id = id })) s. absurd (let none = n.0 in cc);
    }

-- a request whose epoch is closed
pub closed_served : (h : List Entry) (caller epoch : ℕ) (id : List ℕ) (command : Command) (old new : Shown) → IsHistory h → Views h old.tables → Shows old.tables (λ t. IsClosedIn t epoch) →
    new.tables ≡ old.tables → new.faults ≡ old.faults → AddsNoStop old new → IsServed h (Write caller epoch id command) EpochClosed old new
closed_served h caller epoch id command old new hist v there stays quiet adds =
    let closed = found old.tables v there in
    let same = closed_history h caller epoch id command EpochClosed closed in
    record {
      right = (where_told h caller epoch id command EpochClosed true (stored h (record { caller = caller; epoch = epoch; id = id })) closed refl refl, quiet);
      history = subst IsHistory (sym same) hist;
      view = subst (λ x. Views x new.tables) (sym same) (views_stay h old.tables new.tables stays v);
      stops = λ t x. inl (adds t x);
      alone = λ n s. absurd s;
    }
  where
    found : (tables : Option Tables) → Views h tables → Shows tables (λ t. IsClosedIn t epoch) → is_closed h epoch ≡ true
    found None v there = absurd there
    found (Some t) v there = let r = reading_of h hist in ap (nat_lt epoch) (sym ((v r.0 r.1).count_is ClosedEpochs)) ∙ there

-- a request whose identity is stored
pub repeat_served : (h : List Entry) (row : AnswerRow) (caller epoch : ℕ) (id : List ℕ) (command : Command) (result : Result Reply Cause) (old new : Shown) →
    IsHistory h → Views h old.tables → Shows old.tables (λ t. Answers t (record { caller = caller; epoch = epoch; id = id }) (Some (Answered row))) → IsToldAgain row (content_text command) result →
    new.tables ≡ old.tables → new.faults ≡ old.faults → AddsNoStop old new → IsServed h (Write caller epoch id command) (reply_of result) old new
repeat_served h row caller epoch id command result old new hist v there told stays quiet adds =
    again result (found old.tables v there) told (views_stay h old.tables new.tables stays v)
  where
    i : Identity
    i = record { caller = caller; epoch = epoch; id = id }

    IsFound : Type 0
    IsFound = (e : Entry) × (stored h (record { caller = caller; epoch = epoch; id = id }) ≡ Some e) × (row.content ≡ content_text e.command) × (row.reply ≡ reply_text e.reply) × IsStored e.reply × (is_closed h epoch ≡ false)

    found : (tables : Option Tables) → Views h tables → Shows tables (λ t. Answers t (record { caller = caller; epoch = epoch; id = id }) (Some (Answered row))) → IsFound
    found None v there = absurd there
    found (Some t) v there =
        let r = reading_of h hist in
        let are = answers_are r.0 h t (record { caller = caller; epoch = epoch; id = id }) (Some (Answered row)) (v r.0 r.1) there in
        let x = recalled h row (record { caller = caller; epoch = epoch; id = id }) hist are.1 in
        (x.0, x.1, x.2, x.3, x.4, are.0)

    again : (result : Result Reply Cause) → IsFound → IsToldAgain row (content_text command) result → Views h new.tables → IsServed h (Write caller epoch id command) (reply_of result) old new
    again (Ok reply) r (inl told) v =
        let command_is : command ≡ r.0.command = content_text_injective command r.0.command (sym told.0 ∙ r.2) in
        let reply_is : reply ≡ r.0.reply = reply_text_injective reply r.0.reply told.1 r.4 (told.2 ∙ r.3) in
        old_served h caller epoch id command reply r.0 old new hist v r.5 r.1 (inl (stored_given reply told.1)) (record { equal = λ _. reply_is; other = λ no. absurd (no command_is) }) quiet adds
    again (Ok reply) r (inr told) v =
        old_served h caller epoch id command reply r.0 old new hist v r.5 r.1 (inr told.1) (record { equal = λ e. absurd (told.0 (r.2 ∙ ap content_text (sym e))); other = λ _. told.1 }) quiet adds
    again (Err Memory) r told v = not_taken_served h (Write caller epoch id command) Memory old new hist v quiet (λ t x. inl (adds t x))
    again (Err Damaged) r told v = absurd (told r.0.reply r.4 (sym r.3))
    again (Err Store) r told v = absurd told
    again (Err Pattern) r told v = absurd told
    again (Err Full) r told v = absurd told

-- Stops. A delivery either grows the history by a first arrival, or leaves it.
grows_or_stays : (h : List Entry) (d : Delivery) (reply : Reply) (before after : ℕ) → IsHistory h → IsRight h d reply before after →
    (IsNew h d × IsDoneOrRefused reply) ⊎ (history_after h (d ∷ []) (reply ∷ []) ≡ h)
grows_or_stays h (Read caller query) reply before after history right = inr refl
grows_or_stays h (Write caller epoch id command) reply before after history right = at (is_closed h epoch) (stored h (record { caller = caller; epoch = epoch; id = id })) refl refl reply right
  where
    at : (b : Bool) (o : Option Entry) → is_closed h epoch ≡ b → stored h (record { caller = caller; epoch = epoch; id = id }) ≡ o → (reply : Reply) → IsRight h (Write caller epoch id command) reply before after →
        (IsFirst h (record { caller = caller; epoch = epoch; id = id }) × IsDoneOrRefused reply) ⊎ (history_after h (Write caller epoch id command ∷ []) (reply ∷ []) ≡ h)
    at true o closed is reply right = inr (closed_history h caller epoch id command reply closed)
    at false (Some e) opened some reply right = inr (same_history h caller epoch id command reply e some)
    at false None opened none (Done a) right = inl ((none, opened), tt)
    at false None opened none (Refused r) right = inl ((none, opened), tt)
    at false None opened none (NotTaken c) right = inr refl
    at false None opened none IdentityReused right =
        absurd (answer_given h caller epoch command IdentityReused history (told_where h caller epoch id command IdentityReused false None opened none right.0))
    at false None opened none EpochClosed right =
        absurd (answer_given h caller epoch command EpochClosed history (told_where h caller epoch id command EpochClosed false None opened none right.0))

effect_goes_on : (h : List Entry) (d : Delivery) (t : Tables) → IsFormed d → HasEffect h d t → GoesOn h t
effect_goes_on h (Read caller query) t form e = absurd e
effect_goes_on h (Write caller epoch id command) t form e = (entry_of caller epoch id command e.0 ∷ [], formed_entry caller epoch id command e.0 [] form tt, e.1, e.2)

-- what a stop leaves goes on from the history after the delivery
pub leaves_since : (h : List Entry) (d : Delivery) (reply : Reply) (old new : Shown) → IsFormed d → IsHistory h → IsServed h d reply old new → StopGoesOnFrom h old →
    StopGoesOnFrom (history_after h (d ∷ []) (reply ∷ [])) new
leaves_since h d reply old new form history s since t x = ⊎_elim
    (λ (grew : IsNew h d × IsDoneOrRefused reply). ([], tt, s.history, alone_is (s.alone grew.0 grew.1 t x)))
    (λ (stays : history_after h (d ∷ []) (reply ∷ []) ≡ h).
    subst (λ g. GoesOn g t) (sym stays) (⊎_elim (λ (y : old.stops t). since t y) (λ (e : HasEffect h d t). effect_goes_on h d t form e) (s.stops t x)))
    (grows_or_stays h d reply old.faults new.faults history s.right)
  where
    alone_is : new.tables ≡ Some t → IsView (history_after h (d ∷ []) (reply ∷ [])) t
    alone_is e = subst (Views (history_after h (d ∷ []) (reply ∷ []))) e s.view

-- two commands are the same or not, as their texts are
pub same_command : (a b : Command) → (a ≡ b) ⊎ (a ≡ b → ⊥)
same_command a b = ⊎_elim
    (λ (t : bytes_eq (content_text a) (content_text b) ≡ true). inl (content_text_injective a b ((bytes_eq-Decides (content_text a) (content_text b)).0 t)))
    (λ (f : bytes_eq (content_text a) (content_text b) ≡ false).
    inr (λ e. let t = (bytes_eq-Decides (content_text a) (content_text b)).1 (ap content_text e) in absurd (cc)))
    (cases_Bool (bytes_eq (content_text a) (content_text b)))

told_of : (h : List Entry) (d : Delivery) (reply : Reply) (before after : ℕ) → IsDoneOrRefused reply → IsRight h d reply before after → IsTold h d reply
told_of h d IdentityReused before after s right = absurd s
told_of h d EpochClosed before after s right = absurd s
told_of h d (NotTaken c) before after s right = absurd s
told_of h d _ before after s right = right.0

-- what is stored under the identity of a command that was told a stored reply is that command, with that reply
repeat_is : (e : Entry) (command : Command) (reply : Reply) → IsDoneOrRefused reply → IsToldOfStored e command reply → (e.command ≡ command) × (e.reply ≡ reply)
repeat_is e command reply s told = ⊎_elim
    (λ (c : command ≡ e.command). (sym c, sym (told.equal c)))
    (λ (n : command ≡ e.command → ⊥). absurd (subst IsDoneOrRefused (told.other n) s))
    (same_command command e.command)

-- after Done or Refused the write is an entry
entered : (h : List Entry) (d : Delivery) (reply : Reply) (old new : Shown) → IsServed h d reply old new → IsDoneOrRefused reply → IsEntered d reply (history_after h (d ∷ []) (reply ∷ []))
entered h (Read caller query) reply old new s r = tt
entered h (Write caller epoch id command) reply old new s r = at (is_closed h epoch) (stored h (record { caller = caller; epoch = epoch; id = id })) refl refl
  where
    at : (b : Bool) (o : Option Entry) → is_closed h epoch ≡ b → stored h (record { caller = caller; epoch = epoch; id = id }) ≡ o → IsEntered (Write caller epoch id command) reply (history_after h (Write caller epoch id command ∷ []) (reply ∷ []))
    at true o closed is = absurd (subst IsDoneOrRefused (told_where h caller epoch id command reply true o closed is (told_of h (Write caller epoch id command) reply old.faults new.faults r s.right)) r)
    at false None opened none =
        subst (IsEntered (Write caller epoch id command) reply) (sym (new_history h caller epoch id command reply r (none, opened))) (
          entry_of caller epoch id command reply,
          stored_here (entry_of caller epoch id command reply) h (record { caller = caller; epoch = epoch; id = id }) (same_to (record { caller = caller; epoch = epoch; id = id }) (record { caller = caller; epoch = epoch; id = id }) refl),
          refl,
          refl,
        )
    at false (Some e) opened some =
        let told = told_where h caller epoch id command reply false (Some e) opened some (told_of h (Write caller epoch id command) reply old.faults new.faults r s.right) in
        subst (IsEntered (Write caller epoch id command) reply) (sym (same_history h caller epoch id command reply e some))
        (let same = repeat_is e command reply r told in (e, some, same.0, same.1))

entered_stays : (more h : List Entry) (d : Delivery) (reply : Reply) → IsHistory (more ++ h) → IsEntered d reply h → IsEntered d reply (more ++ h)
entered_stays more h (Read caller query) reply hist e = tt
entered_stays more h (Write caller epoch id command) reply hist is = (is.0, stored_stays more h (record { caller = caller; epoch = epoch; id = id }) is.0 hist is.1, is.2, is.3)

pub leaves_entered : (h : List Entry) (d : Delivery) (reply : Reply) (old new : Shown) → IsFormed d → IsHistory h → IsServed h d reply old new → StopGoesOnFrom h old → StopHasEntry d reply new
leaves_entered h d reply old new form history s since r t x =
    let g = leaves_since h d reply old new form history s since t x in
    (g.0 ++ history_after h (d ∷ []) (reply ∷ []), g.2, g.3, entered_stays g.0 (history_after h (d ∷ []) (reply ∷ [])) d reply g.2 (entered h d reply old new s r))

-- an identity with no stored row whose epoch is open is new
pub unrecalled : (h : List Entry) (tables : Option Tables) (i : Identity) → IsHistory h → Views h tables →
    Shows tables (λ t. Answers t i None) → IsFirst h i
unrecalled h None i hist v none = absurd none
unrecalled h (Some t) i hist v none =
    let r = reading_of h hist in
    let are = answers_are r.0 h t i None (v r.0 r.1) none in
    (not_recalled h i are.1, are.0)

-- a cause that a `?` passed on
pub err_reply : (r : Result Reply Cause) (c : Cause) → IsErr r × IsErrAnd r (λ d. d ≡ c) → NotTaken c ≡ reply_of r
err_reply (Ok x) c e = let f = e.0 in absurd (cc)
err_reply (Err d) c e = ap NotTaken (sym e.1)

-- both that are said of stops
pub stopped : (h : List Entry) (d : Delivery) (reply : Reply) (old new : Shown) → IsFormed d → IsHistory h → IsServed h d reply old new → StopGoesOnFrom h old →
    StopGoesOnFrom (history_after h (d ∷ []) (reply ∷ [])) new × StopHasEntry d reply new
stopped h d reply old new form history s since = (leaves_since h d reply old new form history s since, leaves_entered h d reply old new form history s since)

-- it is lawful not to answer a question for which not all was gathered
unread_lawful : (h : List Entry) (caller : ℕ) (query : Query) (tables : Option Tables) (cause : Cause) (before after : ℕ) → IsHistory h → Views h tables →
    IsUngathered (OfQuery query) tables cause → CountsReply (NotTaken cause) before after → IsLawful h (Read caller query) cause before after
unread_lawful h caller query None Damaged before after hist v u counted = absurd u
unread_lawful h caller query (Some t) Damaged before after hist v u counted = absurd (u h hist v)
unread_lawful h caller query None Pattern before after hist v u counted = absurd u
unread_lawful h caller query (Some t) Pattern before after hist v u counted = ((λ reading reads. u reading h reads v), counted)
unread_lawful h caller query tables Full before after hist v u counted = absurd u
unread_lawful h caller query tables _ before after hist v u counted = counted

-- what is left where not all was gathered views the history as before
pub views_left_by : (h : List Entry) (cause : Cause) (old new : Option Tables) → LeavesBy cause old new → Views h old → Views h new
views_left_by h Store old new (inl e) v = subst (Views h) (sym e) v
views_left_by h Store old new (inr e) v = subst (Views h) (sym e) tt
views_left_by h _ old new e v = subst (Views h) (sym e) v

-- a question for which not all was gathered
pub unread_served : (h : List Entry) (caller : ℕ) (query : Query) (cause : Cause) (old new : Shown) → IsHistory h → Views h old.tables →
    IsUngathered (OfQuery query) old.tables cause → LeavesBy cause old.tables new.tables →
    CountsReply (NotTaken cause) old.faults new.faults → AddsNoStop old new → IsServed h (Read caller query) (NotTaken cause) old new
unread_served h caller query cause old new hist v u left counted adds =
    not_taken_served h (Read caller query) cause old new hist (views_left_by h cause old.tables new.tables left v)
    (unread_lawful h caller query old.tables cause old.faults new.faults hist v u counted) (λ t x. inl (adds t x))

-- a question that was not answered
unshown_lawful : (h : List Entry) (caller : ℕ) (query : Query) (file : Option File) (rows : Rows) (cause : Cause) (before after : ℕ) → IsHistory h →
    ((reading : Reading) → Reads reading h → AreEnough reading h caller (OfQuery query) file rows) → IsUnshown caller query file rows cause → after ≡ before → IsLawful h (Read caller query) cause before after
unshown_lawful h caller query file rows Memory before after hist l u same = same
unshown_lawful h caller query file rows Damaged before after hist l u same = let r = reading_of h hist in absurd (u r.0 h hist (l r.0 r.1))
unshown_lawful h caller query file rows _ before after hist l u same = absurd u

-- a question, answered or not
pub shown_served : (h : List Entry) (caller : ℕ) (query : Query) (r : Result Reply Cause) (file : Option File) (rows : Rows) (old new : Shown) → IsHistory h → Views h old.tables →
    Shows old.tables (λ t. Agrees t rows) → IsAllAsked caller (OfQuery query) file rows → IfOk r IsDoneOrRefused →
    IfOk r (λ reply. (reading : Reading) (h : List Entry) → RestsOn (OfQuery query) h → AreEnough reading h caller (OfQuery query) file rows → IsQueryAnswerBy reading h caller query reply) → IfErr r (IsUnshown caller query file rows) →
    new.tables ≡ old.tables → new.faults ≡ old.faults → AddsNoStop old new → IsServed h (Read caller query) (reply_of r) old new
shown_served h caller query (Ok reply) file rows old new hist v found asked answered shown cause stays quiet adds =
    read_served h caller query reply old new hist v answered (λ reading reads. shown reading h (rests_on h (OfQuery query) hist) (enough_shown reading h old.tables caller (OfQuery query) file rows reads v found asked)) stays quiet adds
shown_served h caller query (Err e) file rows old new hist v found asked answered shown cause stays quiet adds =
    not_taken_served h (Read caller query) e old new hist (views_stay h old.tables new.tables stays v)
    (unshown_lawful h caller query file rows e old.faults new.faults hist (λ reading reads. enough_shown reading h old.tables caller (OfQuery query) file rows reads v found asked) cause quiet) (λ t x. inl (adds t x))

pub shown_counts : (caller : ℕ) (query : Query) (file : Option File) (rows : Rows) (r : Result Reply Cause) (before after : ℕ) → IfOk r IsDoneOrRefused → IfErr r (IsUnshown caller query file rows) → after ≡ before →
    CountsReply (reply_of r) before after
shown_counts caller query file rows (Ok IdentityReused) before after answered cause same = absurd answered
shown_counts caller query file rows (Ok EpochClosed) before after answered cause same = absurd answered
shown_counts caller query file rows (Ok (NotTaken c)) before after answered cause same = absurd answered
shown_counts caller query file rows (Err Pattern) before after answered cause same = absurd cause
shown_counts caller query file rows (Err Store) before after answered cause same = absurd cause
shown_counts caller query file rows (Err Full) before after answered cause same = absurd cause
shown_counts caller query file rows _ before after answered cause same = same

pub shown_keeps : (caller : ℕ) (query : Query) (file : Option File) (rows : Rows) (r : Result Reply Cause) (old new : Option Tables) → IfOk r IsDoneOrRefused → IfErr r (IsUnshown caller query file rows) → new ≡ old →
    KeepsUntaken (Read caller query) (reply_of r) old new
shown_keeps caller query file rows (Ok IdentityReused) old new answered cause same = absurd answered
shown_keeps caller query file rows (Ok EpochClosed) old new answered cause same = absurd answered
shown_keeps caller query file rows (Ok (NotTaken c)) old new answered cause same = absurd answered
shown_keeps caller query file rows (Err Store) old new answered cause same = absurd cause
shown_keeps caller query file rows (Err Pattern) old new answered cause same = absurd cause
shown_keeps caller query file rows (Err Full) old new answered cause same = absurd cause
shown_keeps caller query file rows _ old new answered cause same = same

-- a question for which not all was gathered
pub unread_keeps : (caller : ℕ) (query : Query) (cause : Cause) (old new : Option Tables) → IsUngathered (OfQuery query) old cause → LeavesBy cause old new → KeepsUntaken (Read caller query) (NotTaken cause) old new
unread_keeps caller query Full old new why left = absurd why
unread_keeps caller query _ old new why left = left

-- ==== a list of answered entries, however long, has a reading

-- something is read of each text that was put, which is right
abbrev pub HasReading : List Entry → Type 0
HasReading h = (reading : Reading) × Reads reading h

-- what is read, with the file of one text more
abbrev with_file : Reading → List ℕ → File → Reading
with_file reading text file t = cond (bytes_eq t text) file (reading t)

read_here : (reading : Reading) (text : List ℕ) (file : File) → IsRead text file → IsRead text (with_file reading text file text)
read_here reading text file is = subst (IsRead text) (sym (ap (λ b. cond b file (reading text)) ((bytes_eq-Decides text text).1 refl))) is

read_there : (reading : Reading) (text : List ℕ) (file : File) → IsRead text file → (t : List ℕ) → IsRead t (reading t) → IsRead t (with_file reading text file t)
read_there reading text file is t right = ⊎_elim
    (λ (same : bytes_eq t text ≡ true). subst (λ x. IsRead x (with_file reading text file x)) (sym ((bytes_eq-Decides t text).0 same)) (read_here reading text file is))
    (λ (other : bytes_eq t text ≡ false). subst (IsRead t) (sym (ap (λ b. cond b file (reading t)) other)) right)
    (cases_Bool (bytes_eq t text))

right_there : (reading : Reading) (text : List ℕ) (file : File) → IsRead text file → (o : Option Command) → IsReadRight reading o → IsReadRight (with_file reading text file) o
right_there reading text file is (Some (PutProject project t)) right = read_there reading text file is t right
right_there reading text file is _ right = tt

reads_there : (reading : Reading) (text : List ℕ) (file : File) → IsRead text file → (h : List Entry) → Reads reading h → Reads (with_file reading text file) h
reads_there reading text file is [] reads = tt
reads_there reading text file is (e ∷ h) reads = (right_there reading text file is (accepted e) reads.0, reads_there reading text file is h reads.1)

-- one answered entry more
read_more : (h : List Entry) (caller epoch : ℕ) (id : List ℕ) (command : Command) (reply : Reply) (reading : Reading) → Reads reading h → IsDoneBy reading h caller command reply → HasReading (entry_of caller epoch id command reply ∷ h)
read_more h caller epoch id (PutProject project text) (Done a) reading reads answer =
    let put = put_file reading h caller project text a answer in
    (with_file reading text put.0, (read_here reading text put.0 put.1, reads_there reading text put.0 put.1 h reads))
read_more h caller epoch id _ (Done a) reading reads answer = (reading, (tt, reads))
read_more h caller epoch id command _ reading reads answer = (reading, (tt, reads))

-- the list after a delivery that was told what is right
pub read_on : (h : List Entry) (d : Delivery) (reply : Reply) → HasReading h → IsTold h d reply → HasReading (history_after h (d ∷ []) (reply ∷ []))
read_on h (Read caller query) reply reading told = reading
read_on h (Write caller epoch id command) reply reading told = at (is_closed h epoch) (stored h (record { caller = caller; epoch = epoch; id = id })) refl refl
  where
    at : (b : Bool) (o : Option Entry) → is_closed h epoch ≡ b → stored h (record { caller = caller; epoch = epoch; id = id }) ≡ o → HasReading (history_after h (Write caller epoch id command ∷ []) (reply ∷ []))
    at true o closed is = subst HasReading (sym (closed_history h caller epoch id command reply closed)) reading
    at false (Some e) opened some = subst HasReading (sym (same_history h caller epoch id command reply e some)) reading
    at false None opened none =
        let answer : IsAnswer h caller epoch command reply = told_where h caller epoch id command reply false None opened none told in
        let by = answer reading.0 reading.1 in
        subst HasReading (sym (new_history h caller epoch id command reply (answer_given_in reading.0 h caller epoch command reply by) (none, opened)))
        (read_more h caller epoch id command reply reading.0 reading.1 (done_by reading.0 h caller epoch command reply by))
