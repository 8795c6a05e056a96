-- A run that begins again.
use Rattle.std.proofs.Common.{append_assoc, ◌≡◌, ◌⊎◌, ℕ, zero, suc, ◌<◌, take, drop, get_or, List, [], ◌∷◌, ◌++◌, length, Option, Some, None, Bool, true, false, cond, ◌||◌, refl, sym, ap, ◌∙◌, subst, inl, inr, ⊎_elim, arith, length-take-le, is_some, MatchOption}
use Rattle.review_machine_rows.proofs.Common.{Command, Delivery, Entry, EpochClosed, Identity, IsAnswer, IsDoneOrRefused, IsFirst, IsHistory, IsView, NotTaken, Read, Reply, Tables, Write, cases_Bool, entry_of, is_closed, is_same, stored}
use Rattle.review_machine_rows.proofs.Readings.{closed_stays, open_before, reading_of}
use Rattle.review_machine_laws.proofs.Parents.{history_from}
use Rattle.review_machine_deliveries.proofs.Histories.{answer_given, told_where, where_told, stored_stays, stored_here, stored_there, same_to, passed_over}
use Rattle.review_machine_deliveries.proofs.Outcomes.{one_answer_in}
use Rattle.review_machine_deliveries.proofs.Ran.{HasSince, since_start, since_old, since_new, since_closed, dropped, added, each_way, with_taken-append, first-append, history_after-append}
use Rattle.review_machine_deliveries.proofs.Served.{HasReading, read_on, new_history, same_history, closed_history, same_command}
use Rattle.review_machine_deliveries.proofs.Submits.{OneStanding}
use Rattle.review_machine_deliveries.specs.Replies.{IsTold, IsRight, AreRight, IsToldOfStored, history_after, with_entries as hist, has_identity, first_arrivals as first, arrivals_after as first_after, taken, with_taken, HasEffect}
use Rattle.review_machine_deliveries.specs.Restart.{IsFree, RefusesBadValue, IsSettled, AreSettled, WasTaken, WereTaken, AgreeFor, AgreeOnWrites, AgreesAgain, AgreeAfter, AgreesWhereOpen, AgreeWhereOpen, RunsAsFrom, RestartIsRun, RestartAfterCut, RestartAfterStop, RestartCompletes, RestartKeepsHistory, RepliesFollowHistory}

-- each delivery is taken, and its reply is right after those before it
abbrev pub AreTold : List Entry → List Delivery → List Reply → Type 0
AreTold h [] [] = Unit {0}
AreTold h [] (r ∷ rs) = ⊥
AreTold h (d ∷ ds) [] = ⊥
AreTold h (d ∷ ds) (r ∷ rs) = WasTaken r × IsTold h d r × AreTold (history_after h (d ∷ []) (r ∷ [])) ds rs

-- a run is its first delivery and then the rest
pub history_cons : (h : List Entry) (d : Delivery) (ds : List Delivery) (r : Reply) (rs : List Reply) →
    history_after h (d ∷ ds) (r ∷ rs) ≡ history_after (history_after h (d ∷ []) (r ∷ [])) ds rs
history_cons h d ds r rs = ap (λ es. hist h (first h es)) (with_taken-append d r [] (taken ds rs)) ∙ first-append h (with_taken d r []) (taken ds rs)

-- histories only grow
grown : (h es : List Entry) → (more : List Entry) × (hist h es ≡ more ++ h)
grown h [] = ([], refl)
grown h (e ∷ es) =
    let g = grown (e ∷ h) es in
    at (is_closed h e.identity.epoch) (grown h es) (g.0 ++ e ∷ [], g.1 ∙ sym (append_assoc g.0 (e ∷ []) h))
  where
    at : (b : Bool) → (more : List Entry) × (hist h es ≡ more ++ h) → (more : List Entry) × (hist (e ∷ h) es ≡ more ++ h) → (more : List Entry) × (cond b (hist h es) (hist (e ∷ h) es) ≡ more ++ h)
    at true passed grew = passed
    at false passed grew = grew

-- an epoch that is open was so all the time
open_through : (more h : List Entry) (epoch : ℕ) → is_closed (more ++ h) epoch ≡ false → is_closed h epoch ≡ false
open_through [] h epoch opened = opened
open_through (e ∷ more) h epoch opened = open_through more h epoch (open_before e (more ++ h) epoch opened)

-- a list from which a run leaves a history is one
began : (h : List Entry) (ds : List Delivery) (rs : List Reply) → IsHistory (history_after h ds rs) → IsHistory h
began h ds rs history =
    let more = grown h (first h (taken ds rs)) in
    history_from more.0 h (subst IsHistory more.1 history)

one_repeat : (e : Entry) (command : Command) (r s : Reply) → IsToldOfStored e command r → IsToldOfStored e command s → r ≡ s
one_repeat e command r s a b =
    ⊎_elim (λ (c : command ≡ e.command). a.equal c ∙ sym (b.equal c)) (λ (n : command ≡ e.command → ⊥). a.other n ∙ sym (b.other n)) (same_command command e.command)

-- one answer to each command that leaves no choice
settled_answer : OneStanding → (h : List Entry) (caller epoch : ℕ) (command : Command) (r s : Reply) → (IsFree command → ⊥) → HasReading h → IsAnswer h caller epoch command r → IsAnswer h caller epoch command s → r ≡ s
settled_answer standing h caller epoch command r s settled reading a b =
    ⊎_elim (λ (same : r ≡ s). same) (λ (free : IsFree command × (RefusesBadValue r ⊎ RefusesBadValue s)). absurd (settled free.0))
    (one_answer_in standing reading.0 h caller epoch command r s (a reading.0 reading.1) (b reading.0 reading.1))

-- two right replies to a write are one, and with either reply to a delivery the history goes on alike
one_told : OneStanding → (h : List Entry) (d : Delivery) (r s : Reply) → IsSettled d → HasReading h → IsTold h d r → IsTold h d s →
    AgreeFor d r s × (history_after h (d ∷ []) (s ∷ []) ≡ history_after h (d ∷ []) (r ∷ []))
one_told standing h (Read caller query) r s settled reading a b = (tt, refl)
one_told standing h (Write caller epoch id command) r s settled reading a b =
    let same = at (is_closed h epoch) (stored h (record { caller = caller; epoch = epoch; id = id })) refl refl in
    (same, ap (λ x. history_after h (Write caller epoch id command ∷ []) (x ∷ [])) (sym same))
  where
    at : (c : Bool) (o : Option Entry) → is_closed h epoch ≡ c → stored h (record { caller = caller; epoch = epoch; id = id }) ≡ o → r ≡ s
    at true o closed is = told_where h caller epoch id command r true o closed is a ∙ sym (told_where h caller epoch id command s true o closed is b)
    at false None opened is =
        settled_answer standing h caller epoch command r s settled reading (told_where h caller epoch id command r false None opened is a) (told_where h caller epoch id command s false None opened is b)
    at false (Some e) opened is = one_repeat e command r s (told_where h caller epoch id command r false (Some e) opened is a) (told_where h caller epoch id command s false (Some e) opened is b)

agrees : (d : Delivery) (r s : Reply) → r ≡ s → AgreeFor d r s
agrees (Read caller query) r s e = tt
agrees (Write caller epoch id command) r s e = e

-- from one history, everything is the same
same_run : OneStanding → (h : List Entry) (ds : List Delivery) (rs ss : List Reply) → AreSettled ds → HasReading h → AreTold h ds rs → AreTold h ds ss → AgreeOnWrites ds rs ss × (history_after h ds ss ≡ history_after h ds rs)
same_run standing h [] [] [] settled reading a b = (tt, refl)
same_run standing h [] (r ∷ rs) ss settled reading a b = absurd a
same_run standing h [] [] (s ∷ ss) settled reading a b = absurd b
same_run standing h (d ∷ ds) [] ss settled reading a b = absurd a
same_run standing h (d ∷ ds) (r ∷ rs) [] settled reading a b = absurd b
same_run standing h (d ∷ ds) (r ∷ rs) (s ∷ ss) settled reading a b =
    let one = one_told standing h d r s settled.0 reading a.1 b.1 in
    let rest = same_run standing (history_after h (d ∷ []) (r ∷ [])) ds rs ss settled.1 (read_on h d r reading a.1) a.2 (subst (λ x. AreTold x ds ss) one.1 b.2) in (
      (one.0, rest.0),
      history_cons h d ds s ss ∙ ap (λ x. history_after x ds ss) one.1 ∙ rest.1 ∙ sym (history_cons h d ds r rs),
    )

-- a write of an epoch that was open then stands from then on, with what it was told
stands : (g h more : List Entry) (caller epoch : ℕ) (id : List ℕ) (command : Command) (r : Reply) → IsHistory h → h ≡ more ++ history_after g (Write caller epoch id command ∷ []) (r ∷ []) →
    is_closed g epoch ≡ false → IsTold g (Write caller epoch id command) r → (e : Entry) × (stored h (record { caller = caller; epoch = epoch; id = id }) ≡ Some e) × IsToldOfStored e command r
stands g h more caller epoch id command r hist is opened a = at (stored g (record { caller = caller; epoch = epoch; id = id })) refl
  where
    there : (e : Entry) → stored (history_after g (Write caller epoch id command ∷ []) (r ∷ [])) (record { caller = caller; epoch = epoch; id = id }) ≡ Some e → stored h (record { caller = caller; epoch = epoch; id = id }) ≡ Some e
    there e some =
        subst (λ x. stored x (record { caller = caller; epoch = epoch; id = id }) ≡ Some e) (sym is)
        (stored_stays more (history_after g (Write caller epoch id command ∷ []) (r ∷ [])) (record { caller = caller; epoch = epoch; id = id }) e (subst IsHistory is hist) some)

    at : (o : Option Entry) → stored g (record { caller = caller; epoch = epoch; id = id }) ≡ o → (e : Entry) × (stored h (record { caller = caller; epoch = epoch; id = id }) ≡ Some e) × IsToldOfStored e command r
    at None none =
        let e : Entry = entry_of caller epoch id command r in
        let answered = told_where g caller epoch id command r false None opened none a in
        let past : IsHistory (history_after g (Write caller epoch id command ∷ []) (r ∷ [])) = history_from more (history_after g (Write caller epoch id command ∷ []) (r ∷ [])) (subst IsHistory is hist) in
        let kept : IsDoneOrRefused r = answer_given g caller epoch command r (began g (Write caller epoch id command ∷ []) (r ∷ []) past) answered in
        let some = there e (ap (λ x. stored x (record { caller = caller; epoch = epoch; id = id })) (new_history g caller epoch id command r kept (none, opened)) ∙ stored_here e g (record { caller = caller; epoch = epoch; id = id }) (same_to (record { caller = caller; epoch = epoch; id = id }) (record { caller = caller; epoch = epoch; id = id }) refl)) in
        (e, some, record { equal = λ _. refl; other = λ n. absurd (n refl) })
    at (Some e) old = (
      e,
      there e (ap (λ x. stored x (record { caller = caller; epoch = epoch; id = id })) (same_history g caller epoch id command r e old) ∙ old),
      told_where g caller epoch id command r false (Some e) opened old a,
    )

-- A delivery of the part that stood gets the same reply again, or that its epoch is closed, and changes nothing.
again : (g h more : List Entry) (d : Delivery) (r s : Reply) → IsHistory h → h ≡ more ++ history_after g (d ∷ []) (r ∷ []) → IsTold g d r → IsTold h d s →
    AgreesAgain h d r s × (history_after h (d ∷ []) (s ∷ []) ≡ h)
again g h more (Read caller query) r s hist is a b = (tt, refl)
again g h more (Write caller epoch id command) r s hist is a b = at (is_closed h epoch) refl
  where
    open_then : is_closed h epoch ≡ false → is_closed g epoch ≡ false
    open_then opened =
        let past = grown g (first g (taken (Write caller epoch id command ∷ []) (r ∷ []))) in
        let later = open_through more (history_after g (Write caller epoch id command ∷ []) (r ∷ [])) epoch (subst (λ x. is_closed x epoch ≡ false) is opened) in
        open_through past.0 g epoch (subst (λ x. is_closed x epoch ≡ false) past.1 later)

    at : (c : Bool) → is_closed h epoch ≡ c → (s ≡ cond (is_closed h epoch) EpochClosed r) × (history_after h (Write caller epoch id command ∷ []) (s ∷ []) ≡ h)
    at true closed = (
      told_where h caller epoch id command s true (stored h (record { caller = caller; epoch = epoch; id = id })) closed refl b ∙ sym (ap (λ x. cond x EpochClosed r) closed),
      closed_history h caller epoch id command s closed,
    )
    at false opened =
        let e = stands g h more caller epoch id command r hist is (open_then opened) a in
        let told = told_where h caller epoch id command s false (Some e.0) opened e.1 b in
        (one_repeat e.0 command s r told e.2 ∙ sym (ap (λ x. cond x EpochClosed r) opened), same_history h caller epoch id command s e.0 e.1)

restart_told : OneStanding → (h0 h : List Entry) (ds1 ds2 : List Delivery) (rs1 rs2 ss : List Reply) →
    IsHistory h → h ≡ history_after h0 ds1 rs1 → length rs1 ≡ length ds1 → AreSettled ds2 → AreTold h0 (ds1 ++ ds2) (rs1 ++ rs2) → AreTold h (ds1 ++ ds2) ss →
    AgreeAfter h ds1 ds2 (rs1 ++ rs2) ss × (history_after h (ds1 ++ ds2) ss ≡ history_after h0 (ds1 ++ ds2) (rs1 ++ rs2))
restart_told standing g h [] ds2 [] rs2 ss hist is same settled a b = same_run' g h ds2 rs2 ss settled is (reading_of h hist) a b
  where
    same_run' : (g h : List Entry) (ds : List Delivery) (rs ss : List Reply) → AreSettled ds → h ≡ g → HasReading h → AreTold g ds rs → AreTold h ds ss →
        AgreeOnWrites ds rs ss × (history_after h ds ss ≡ history_after g ds rs)
    same_run' g h ds rs ss settled is reading a b =
        let s = same_run standing g ds rs ss settled (subst HasReading is reading) a (subst (λ x. AreTold x ds ss) is b) in
        (s.0, ap (λ x. history_after x ds ss) is ∙ s.1)
restart_told standing g h [] ds2 (r ∷ rs1) rs2 ss hist is same settled a b = absurd (omega arith)
restart_told standing g h (d ∷ ds1) ds2 [] rs2 ss hist is same settled a b = absurd (omega arith)
restart_told standing g h (d ∷ ds1) ds2 (r ∷ rs1) rs2 [] hist is same settled a b = absurd b
restart_told standing g h (d ∷ ds1) ds2 (r ∷ rs1) rs2 (s ∷ ss) hist is same settled a b =
    let g1 = history_after g (d ∷ []) (r ∷ []) in
    let later : h ≡ history_after g1 ds1 rs1 = is ∙ history_cons g d ds1 r rs1 in
    let more = grown g1 (first g1 (taken ds1 rs1)) in
    let one = again g h more.0 d r s hist (later ∙ more.1) a.1 b.1 in
    let rest = restart_told standing g1 h ds1 ds2 rs1 rs2 ss hist later (omega arith) settled a.2 (subst (λ x. AreTold x (ds1 ++ ds2) ss) one.1 b.2) in (
      (one.0, rest.0),
      history_cons h d (ds1 ++ ds2) s ss ∙ ap (λ x. history_after x (ds1 ++ ds2) ss) one.1 ∙ rest.1 ∙ sym (history_cons g d (ds1 ++ ds2) r (rs1 ++ rs2)),
    )

-- what is stored stays stored
persists : (h es : List Entry) (i : Identity) → is_some (stored h i) ≡ true → is_some (stored (hist h es) i) ≡ true
persists h [] i t = t
persists h (e ∷ es) i t = at (is_closed h e.identity.epoch) (persists h es i t) (persists (e ∷ h) es i there)
  where
    there : is_some (stored (e ∷ h) i) ≡ true
    there = ⊎_elim (λ (y : is_same e.identity i ≡ true). ap is_some (stored_here e h i y)) (λ (n : is_same e.identity i ≡ false). ap is_some (stored_there e h i n) ∙ t) (cases_Bool (is_same e.identity i))

    at : (b : Bool) → is_some (stored (hist h es) i) ≡ true → is_some (stored (hist (e ∷ h) es) i) ≡ true → is_some (stored (cond b (hist h es) (hist (e ∷ h) es)) i) ≡ true
    at true passed grew = passed
    at false passed grew = grew

-- and what is closed stays closed
closed_persists : (h es : List Entry) (epoch : ℕ) → is_closed h epoch ≡ true → is_closed (hist h es) epoch ≡ true
closed_persists h [] epoch t = t
closed_persists h (e ∷ es) epoch t = at (is_closed h e.identity.epoch) (closed_persists h es epoch t) (closed_persists (e ∷ h) es epoch (closed_stays e h epoch t))
  where
    at : (b : Bool) → is_closed (hist h es) epoch ≡ true → is_closed (hist (e ∷ h) es) epoch ≡ true → is_closed (cond b (hist h es) (hist (e ∷ h) es)) epoch ≡ true
    at true passed grew = passed
    at false passed grew = grew

-- whatever entries come
closed_through : (more h : List Entry) (epoch : ℕ) → is_closed h epoch ≡ true → is_closed (more ++ h) epoch ≡ true
closed_through [] h epoch t = t
closed_through (e ∷ more) h epoch t = closed_stays e (more ++ h) epoch (closed_through more h epoch t)

-- each is in the history, or its epoch is closed
abbrev AllIn : List Entry → List Entry → Type 0
AllIn h [] = Unit {0}
AllIn h (e ∷ es) = ((has_identity h e ≡ true) ⊎ (is_closed h e.identity.epoch ≡ true)) × AllIn h es

-- all that came is in the history after it, or its epoch is closed
have_all : (h0 history_from now es : List Entry) → HasSince now h0 history_from → AllIn (hist now (first_after h0 history_from es)) es
have_all h0 history_from now [] since = tt
have_all h0 history_from now (e ∷ es) since =
    let rest = first_after h0 (e ∷ history_from) es in
    each_way now e
    (λ closed. subst (λ g. AllIn g (e ∷ es)) (sym (passed_over now (has_identity h0 e || has_identity history_from e) e rest closed))
    (inr (closed_persists now rest e.identity.epoch closed), have_all h0 (e ∷ history_from) now es (since_closed now h0 history_from e since closed)))
    (λ opened old. subst (λ g. AllIn g (e ∷ es)) (sym (dropped now h0 history_from e rest since opened old))
    (inl (persists now rest e.identity old), have_all h0 (e ∷ history_from) now es (since_old now h0 history_from e since old)))
    (λ opened new. subst (λ g. AllIn g (e ∷ es)) (sym (added now h0 history_from e rest since opened new)) (
      inl (persists (e ∷ now) rest e.identity (ap is_some (stored_here e now e.identity (same_to e.identity e.identity refl)))),
      have_all h0 (e ∷ history_from) (e ∷ now) es (since_new now h0 history_from e since),
    ))

nothing_new : (h history_from es : List Entry) → AllIn h es → hist h (first_after h history_from es) ≡ h
nothing_new h history_from [] all = refl
nothing_new h history_from (e ∷ es) all =
    let rest = first_after h (e ∷ history_from) es in ⊎_elim
    (λ (there : has_identity h e ≡ true). ap (λ b. hist h (cond (b || has_identity history_from e) rest (e ∷ rest))) there)
    (λ (closed : is_closed h e.identity.epoch ≡ true). passed_over h (has_identity h e || has_identity history_from e) e rest closed)
    all.0
    ∙ nothing_new h (e ∷ history_from) es all.1

pub keeps_history : RestartKeepsHistory
keeps_history h0 es1 es2 =
    let h = hist h0 (first h0 es1) in
    let none : hist h (first h es1) ≡ h = nothing_new h [] es1 (have_all h0 [] h0 es1 (since_start h0)) in
    first-append h es1 es2 ∙ ap (λ g. hist g (first g es2)) none ∙ sym (first-append h0 es1 es2)

-- the reply that a history has for a write, but where it was told that its epoch is closed, as it is then
abbrev IsToldBy : List Entry → Delivery → Reply → Type 0
IsToldBy h (Read caller query) reply = Unit {0}
IsToldBy h (Write caller epoch id command) reply = ((reply ≡ EpochClosed) × (is_closed h epoch ≡ true)) ⊎ MatchOption (stored h (record { caller = caller; epoch = epoch; id = id })) ⊥ (λ e. IsToldOfStored e command reply)

abbrev AreToldBy : List Entry → List Delivery → List Reply → Type 0
AreToldBy h [] rs = Unit {0}
AreToldBy h (d ∷ ds) [] = Unit {0}
AreToldBy h (d ∷ ds) (r ∷ rs) = IsToldBy h d r × AreToldBy h ds rs

told_by : (g h more : List Entry) (d : Delivery) (r : Reply) → IsHistory h → h ≡ more ++ history_after g (d ∷ []) (r ∷ []) → IsTold g d r → IsToldBy h d r
told_by g h more (Read caller query) r hist is a = tt
told_by g h more (Write caller epoch id command) r hist is a = at (is_closed g epoch) refl
  where
    at : (c : Bool) → is_closed g epoch ≡ c → IsToldBy h (Write caller epoch id command) r
    at true closed = inl (
      told_where g caller epoch id command r true (stored g (record { caller = caller; epoch = epoch; id = id })) closed refl a,
      ap (λ l. is_closed l epoch) is ∙ closed_through more _ epoch (closed_persists g (first g (taken (Write caller epoch id command ∷ []) (r ∷ []))) epoch closed),
    )
    at false opened =
        let e = stands g h more caller epoch id command r hist is opened a in
        inr (subst (λ o. MatchOption o ⊥ (λ e. IsToldOfStored e command r)) (sym e.1) e.2)

all_told_by : (g h : List Entry) (ds : List Delivery) (rs : List Reply) → IsHistory h → h ≡ history_after g ds rs → AreTold g ds rs → AreToldBy h ds rs
all_told_by g h [] rs hist is a = tt
all_told_by g h (d ∷ ds) [] hist is a = tt
all_told_by g h (d ∷ ds) (r ∷ rs) hist is a =
    let g1 = history_after g (d ∷ []) (r ∷ []) in
    let later : h ≡ history_after g1 ds rs = is ∙ history_cons g d ds r rs in
    let more = grown g1 (first g1 (taken ds rs)) in
    (told_by g h more.0 d r hist (later ∙ more.1) a.1, all_told_by g1 h ds rs hist later a.2)

both_told : (h : List Entry) (d : Delivery) (r s : Reply) → IsToldBy h d r → IsToldBy h d s → AgreesWhereOpen h d r s
both_told h (Read caller query) r s a b = tt
both_told h (Write caller epoch id command) r s (inl closed) b = inr (closed.1, inl closed.0)
both_told h (Write caller epoch id command) r s (inr a) (inl closed) = inr (closed.1, inr closed.0)
both_told h (Write caller epoch id command) r s (inr a) (inr b) = inl (at (stored h (record { caller = caller; epoch = epoch; id = id })) a b)
  where
    at : (o : Option Entry) → MatchOption o ⊥ (λ e. IsToldOfStored e command r) → MatchOption o ⊥ (λ e. IsToldOfStored e command s) → r ≡ s
    at None a b = absurd a
    at (Some e) a b = one_repeat e command r s a b

all_agree : (h : List Entry) (ds : List Delivery) (rs ss : List Reply) → AreToldBy h ds rs → AreToldBy h ds ss → AgreeWhereOpen h ds rs ss
all_agree h [] rs ss a b = tt
all_agree h (d ∷ ds) [] ss a b = tt
all_agree h (d ∷ ds) (r ∷ rs) [] a b = tt
all_agree h (d ∷ ds) (r ∷ rs) (s ∷ ss) a b = (both_told h d r s a.0 b.0, all_agree h ds rs ss a.1 b.1)

-- right replies of deliveries that were taken, one after the other
abbrev EachTold : List Entry → List Delivery → List Reply → Type 0
EachTold h ds rs = (i : ℕ) (d : Delivery) (r : Reply) → i < length ds → IsTold (history_after h (take i ds) (take i rs)) (get_or ds i d) (get_or rs i r)

given_at : (rs : List Reply) (i : ℕ) (r : Reply) → WereTaken rs → i < length rs → WasTaken (get_or rs i r)
given_at [] i r all below = absurd (omega arith)
given_at (s ∷ rs) zero r all below = all.0
given_at (s ∷ rs) (suc i) r all below = given_at rs i r all.1 (omega arith)

given_told : (h : List Entry) (d : Delivery) (r : Reply) (before after : ℕ) → WasTaken r → IsRight h d r before after → IsTold h d r
given_told h d (NotTaken c) before after given right = absurd given
given_told h d _ before after given right = right.0

each_told : (h : List Entry) (ds : List Delivery) (rs : List Reply) (counts : List (ℕ × ℕ)) → AreRight h ds rs counts → WereTaken rs → EachTold h ds rs
each_told h ds rs counts right given i d r below =
    let lengths = right.replies in
    given_told (history_after h (take i ds) (take i rs)) (get_or ds i d) (get_or rs i r) _ _ (given_at rs i r given (omega arith)) (right.each i d r (0, 0) below)

in_turn : (h : List Entry) (ds : List Delivery) (rs : List Reply) → length rs ≡ length ds → WereTaken rs → EachTold h ds rs → AreTold h ds rs
in_turn h [] [] same given each = tt
in_turn h [] (r ∷ rs) same given each = absurd (omega arith)
in_turn h (d ∷ ds) [] same given each = absurd (omega arith)
in_turn h (d ∷ ds) (r ∷ rs) same given each = (
  given.0,
  each 0 d r (omega arith),
  in_turn (history_after h (d ∷ []) (r ∷ [])) ds rs (omega arith) given.1
      (λ i c s below. subst (λ g. IsTold g (get_or ds i c) (get_or rs i s)) (history_cons h d (take i ds) r (take i rs)) (each (suc i) c s (omega arith))),
)

told_right : (h : List Entry) (ds : List Delivery) (rs : List Reply) (counts : List (ℕ × ℕ)) → AreRight h ds rs counts → WereTaken rs → AreTold h ds rs
told_right h ds rs counts right given = in_turn h ds rs right.replies given (each_told h ds rs counts right given)

pub follow_history : RepliesFollowHistory
follow_history h0 h last ds rs ss counts others hist right given right' given' one other =
    all_agree last ds rs ss (all_told_by h0 last ds rs hist one (told_right h0 ds rs counts right given)) (all_told_by h last ds ss hist other (told_right h ds ss others right' given'))

pub restart : OneStanding → RestartCompletes
restart standing h0 h ds1 ds2 rs1 rs2 ss counts others hist is same settled right given right' given' =
    restart_told standing h0 h ds1 ds2 rs1 rs2 ss hist is same settled (told_right h0 (ds1 ++ ds2) (rs1 ++ rs2) counts right given) (told_right h (ds1 ++ ds2) ss others right' given')

-- a list up to one element, that element, and the rest
split_at : {A : Type 0} (i : ℕ) (xs : List A) (x : A) → i < length xs → (take i xs ++ get_or xs i x ∷ []) ++ drop (suc i) xs ≡ xs
split_at i [] x below = absurd (omega (arith, below))
split_at zero (y ∷ xs) x below = refl
split_at (suc i) (y ∷ xs) x below = ap (λ l. y ∷ l) (split_at i xs x (omega (arith, below)))

-- a list of deliveries that were taken, and then another
told_append : (h : List Entry) (ds es : List Delivery) (rs ss : List Reply) → AreTold h ds rs → AreTold (history_after h ds rs) es ss → AreTold h (ds ++ es) (rs ++ ss)
told_append h [] es [] ss a b = b
told_append h [] es (r ∷ rs) ss a b = absurd a
told_append h (d ∷ ds) es [] ss a b = absurd a
told_append h (d ∷ ds) es (r ∷ rs) ss a b =
    (a.0, a.1, told_append (history_after h (d ∷ []) (r ∷ [])) ds es rs ss a.2 (subst (λ x. AreTold x es ss) (history_cons h d ds r rs) b))

told_take : (i : ℕ) (h : List Entry) (ds : List Delivery) (rs : List Reply) → AreTold h ds rs → AreTold h (take i ds) (take i rs)
told_take zero h ds rs a = tt
told_take (suc i) h [] [] a = tt
told_take (suc i) h [] (r ∷ rs) a = absurd a
told_take (suc i) h (d ∷ ds) [] a = absurd a
told_take (suc i) h (d ∷ ds) (r ∷ rs) a = (a.0, a.1, told_take i (history_after h (d ∷ []) (r ∷ [])) ds rs a.2)

told_length : (h : List Entry) (ds : List Delivery) (rs : List Reply) → AreTold h ds rs → length rs ≡ length ds
told_length h [] [] a = refl
told_length h [] (r ∷ rs) a = absurd a
told_length h (d ∷ ds) [] a = absurd a
told_length h (d ∷ ds) (r ∷ rs) a = let rest = told_length (history_after h (d ∷ []) (r ∷ [])) ds rs a.2 in omega (arith, rest)

told_taken : (h : List Entry) (ds : List Delivery) (rs : List Reply) → AreTold h ds rs → WereTaken rs
told_taken h [] [] a = tt
told_taken h [] (r ∷ rs) a = absurd a
told_taken h (d ∷ ds) [] a = absurd a
told_taken h (d ∷ ds) (r ∷ rs) a = (a.0, told_taken (history_after h (d ∷ []) (r ∷ [])) ds rs a.2)

-- counts of faults that stay
abbrev quiet : List Delivery → List (ℕ × ℕ)
quiet [] = []
quiet (d ∷ ds) = (0, 0) ∷ quiet ds

quiet_length : (ds : List Delivery) → length (quiet ds) ≡ length ds
quiet_length [] = refl
quiet_length (d ∷ ds) = let rest = quiet_length ds in omega (arith, rest)

quiet_right : (h : List Entry) (d : Delivery) (r : Reply) → WasTaken r → IsTold h d r → IsRight h d r 0 0
quiet_right h d (NotTaken c) given told = absurd given
quiet_right h d _ given told = (told, refl)

right_each : (h : List Entry) (ds : List Delivery) (rs : List Reply) → AreTold h ds rs → (i : ℕ) (d : Delivery) (r : Reply) (c : ℕ × ℕ) → i < length ds →
    IsRight (history_after h (take i ds) (take i rs)) (get_or ds i d) (get_or rs i r) (get_or (quiet ds) i c).0 (get_or (quiet ds) i c).1
right_each h [] rs told i d r c below = absurd (omega (arith, below))
right_each h (e ∷ ds) [] told i d r c below = absurd told
right_each h (e ∷ ds) (s ∷ rs) told zero d r c below = quiet_right h e s told.0 told.1
right_each h (e ∷ ds) (s ∷ rs) told (suc i) d r c below =
    subst (λ g. IsRight g (get_or ds i d) (get_or rs i r) (get_or (quiet ds) i c).0 (get_or (quiet ds) i c).1) (sym (history_cons h e (take i ds) s (take i rs)))
    (right_each (history_after h (e ∷ []) (s ∷ [])) ds rs told.2 i d r c (omega (arith, below)))

told_all_right : (h : List Entry) (ds : List Delivery) (rs : List Reply) → AreTold h ds rs → AreRight h ds rs (quiet ds)
told_all_right h ds rs told = record { replies = told_length h ds rs told; counted = quiet_length ds; each = right_each h ds rs told }

agree_same : (ds : List Delivery) (rs : List Reply) → AgreeOnWrites ds rs rs
agree_same [] rs = tt
agree_same (d ∷ ds) [] = tt
agree_same (d ∷ ds) (r ∷ rs) = (agrees d r r refl, agree_same ds rs)

-- the first part is told again what it was told, and the rest is told after it
as_whole : (g h : List Entry) (ds1 ds2 : List Delivery) (rs1 ss : List Reply) → IsHistory h → h ≡ history_after g ds1 rs1 → AreTold g ds1 rs1 → AreTold h (ds1 ++ ds2) ss →
    (rs2 : List Reply) × AreTold g (ds1 ++ ds2) (rs1 ++ rs2) × AgreeAfter h ds1 ds2 (rs1 ++ rs2) ss
    × (history_after h (ds1 ++ ds2) ss ≡ history_after g (ds1 ++ ds2) (rs1 ++ rs2))
as_whole g h [] ds2 [] ss hist is a b = (ss, subst (λ x. AreTold x ds2 ss) is b, agree_same ds2 ss, ap (λ x. history_after x ds2 ss) is)
as_whole g h [] ds2 (r ∷ rs1) ss hist is a b = absurd a
as_whole g h (d ∷ ds1) ds2 [] ss hist is a b = absurd a
as_whole g h (d ∷ ds1) ds2 (r ∷ rs1) [] hist is a b = absurd b
as_whole g h (d ∷ ds1) ds2 (r ∷ rs1) (s ∷ ss) hist is a b =
    let g1 = history_after g (d ∷ []) (r ∷ []) in
    let later : h ≡ history_after g1 ds1 rs1 = is ∙ history_cons g d ds1 r rs1 in
    let more = grown g1 (first g1 (taken ds1 rs1)) in
    let one = again g h more.0 d r s hist (later ∙ more.1) a.1 b.1 in
    let rest = as_whole g1 h ds1 ds2 rs1 ss hist later a.2 (subst (λ x. AreTold x (ds1 ++ ds2) ss) one.1 b.2) in (
      rest.0,
      (a.0, a.1, rest.1),
      (one.0, rest.2),
      history_cons h d (ds1 ++ ds2) s ss ∙ ap (λ x. history_after x (ds1 ++ ds2) ss) one.1 ∙ rest.3 ∙ sym (history_cons g d (ds1 ++ ds2) r (rs1 ++ rest.0)),
    )

runs_as : (h0 h : List Entry) (ds1 ds2 : List Delivery) (rs1 : List Reply) → IsHistory h → h ≡ history_after h0 ds1 rs1 → AreTold h0 ds1 rs1 → RunsAsFrom h0 h ds1 ds2
runs_as h0 h ds1 ds2 rs1 hist is told = λ ss others right given.
    let whole = as_whole h0 h ds1 ds2 rs1 ss hist is told (told_right h (ds1 ++ ds2) ss others right given) in
    (rs1 ++ whole.0, quiet (ds1 ++ ds2), told_all_right h0 (ds1 ++ ds2) (rs1 ++ whole.0) whole.1, told_taken h0 (ds1 ++ ds2) (rs1 ++ whole.0) whole.1, whole.2, whole.3)

pub restart_is_run : RestartIsRun
restart_is_run h0 h ds1 ds2 rs1 counts hist is right given = runs_as h0 h ds1 ds2 rs1 hist is (told_right h0 ds1 rs1 counts right given)

answer_taken : (r : Reply) → IsDoneOrRefused r → WasTaken r
answer_taken (NotTaken c) is = absurd is
answer_taken _ is = tt

-- the whole effect of a first arrival is that of some answer to it
effect_told : (g : List Entry) (d : Delivery) (t : Tables) → HasEffect g d t →
    (r : Reply) × WasTaken r × IsTold g d r × IsHistory (history_after g (d ∷ []) (r ∷ [])) × IsView (history_after g (d ∷ []) (r ∷ [])) t
effect_told g (Read caller query) t effect = absurd effect
effect_told g (Write caller epoch id command) t effect =
    let r = effect.0 in
    let new : IsFirst g (record { caller = caller; epoch = epoch; id = id }) = effect.1.0 in
    let answer : IsAnswer g caller epoch command r = effect.1.1 in
    let kept : IsDoneOrRefused r = answer_given g caller epoch command r effect.1.3 answer in
    let now : history_after g (Write caller epoch id command ∷ []) (r ∷ []) ≡ entry_of caller epoch id command r ∷ g = new_history g caller epoch id command r kept new in
    let told : IsTold g (Write caller epoch id command) r = where_told g caller epoch id command r false None new.1 new.0 answer in
    let P : List Entry → Type 0 = λ h. IsHistory h × IsView h t in
    let made : P (history_after g (Write caller epoch id command ∷ []) (r ∷ [])) = subst P (sym now) (effect.1, effect.2) in
    (r, answer_taken r kept, told, made.0, made.1)

-- what a stop left within a delivery behind others that were told
after_effect : (h0 : List Entry) (ds : List Delivery) (d : Delivery) (more : List Delivery) (rs : List Reply) (left : Tables) → length rs ≡ length ds → AreTold h0 ds rs → HasEffect (history_after h0 ds rs) d left
    → (h : List Entry) × IsHistory h × IsView h left × RunsAsFrom h0 h (ds ++ d ∷ []) more
after_effect h0 ds d more rs left lengths told effect =
    let g = history_after h0 ds rs in
    let made = effect_told g d left effect in
    let r = made.0 in
    let h = history_after g (d ∷ []) (r ∷ []) in
    let grown_to : history_after h0 (ds ++ d ∷ []) (rs ++ r ∷ []) ≡ h = history_after-append h0 ds (d ∷ []) rs (r ∷ []) lengths in
    let all : AreTold h0 (ds ++ d ∷ []) (rs ++ r ∷ []) = told_append h0 ds (d ∷ []) rs (r ∷ []) told (made.1, made.2, tt) in
    (h, made.3, made.4, runs_as h0 h (ds ++ d ∷ []) more (rs ++ r ∷ []) made.3 (sym grown_to) all)

pub after_cut : RestartAfterCut
after_cut h0 ds d more rs counts left right given effect = after_effect h0 ds d more rs left right.replies (told_right h0 ds rs counts right given) effect

pub after_stop : RestartAfterStop
after_stop h0 ds more rs counts left right given stop =
    let i = stop.0 in
    let below : i < length ds = stop.2 in
    let lengths : length rs ≡ length ds = right.replies in
    let d = get_or ds i stop.1 in
    let ds1 : List Delivery = take i ds ++ d ∷ [] in
    let later = drop (suc i) ds ++ more in
    let some : length (take i rs) ≡ length (take i ds) = length-take-le i rs (omega (arith, below, lengths)) ∙ sym (length-take-le i ds (omega (arith, below))) in
    let it = after_effect h0 (take i ds) d later (take i rs) left some (told_take i h0 ds rs (told_right h0 ds rs counts right given)) stop.3 in
    let whole : ds1 ++ (drop (suc i) ds ++ more) ≡ ds ++ more = sym (append_assoc ds1 (drop (suc i) ds) more) ∙ ap (λ l. l ++ more) (split_at i ds stop.1 below) in
    (it.0, it.1, it.2, ds1, later, whole, it.3)
