-- Runs: one delivery more, several lists, and the shelf closed between them.
use Rattle.std.proofs.Common.{◌≡◌, ℕ, zero, suc, ◌+◌, ◌-◌, ◌<◌, ◌≤◌, take, List, [], ◌∷◌, ◌++◌, length, get_or, true, false, cond, ◌||◌, refl, sym, ap, ◌∙◌, subst, inl, inr, ⊎_elim, arith, length-append, get_or-append-add, is_some, Option, append_assoc, append-nil}
use Rattle.std.proofs.Math.{Bool.or-false, Bool.or-true, Seq.take-append-add}
use Rattle.std.proofs.lemmas.List.{get_or_append_left, take-append-le}
use Rattle.review_machine_rows.proofs.Common.{Delivery, Done, Entry, Identity, IsHistory, Read, Reply, Tables, Write, cases_Bool, cases_lt, entry_of, is_closed, is_same, stored}
use Rattle.review_machine_rows.proofs.Readings.{open_before}
use Rattle.review_machine_rows.specs.Shelf.{Shown, Views, StaysOrShuts}
use Rattle.review_core_standing.proofs.Made.{accounts_counted}
use Rattle.review_machine_laws.proofs.{Parents.sound_branches, SoundProjects.sound_projects}
use Rattle.review_machine_deliveries.proofs.Files.{spelled_once}
use Rattle.review_machine_deliveries.proofs.Histories.{all_formed-append, history_formed, passed_over, same_from, stored_here, stored_there}
use Rattle.review_machine_deliveries.proofs.Served.{leaves_since}
use Rattle.review_machine_deliveries.specs.{Delivered.IsDelivered, Delivered.WasRun, Formed.IsFormed, Formed.AllFormed}
use Rattle.review_machine_deliveries.specs.Replies.{taken, with_taken, with_write, StopGoesOnFrom, first_arrivals as first, arrivals_after as first_after, has_identity, history_after, with_entries as hist, IsRight, AreRight, CountsFollow, IsServed, IsRun, StopsWithin, HasEffect, AreSteps, CountsReplies}
use Rattle.review_machine_deliveries.specs.Restart.{CountsFollowIn, RunIsSession, RunsGoOn, all_counts}

-- ==== a run goes on by one delivery

with_write-append : (r : Reply) (e : Entry) (es fs : List Entry) → with_write r e (es ++ fs) ≡ with_write r e es ++ fs
with_write-append (Done a) e es fs = refl
with_write-append _ e es fs = refl

pub with_taken-append : (d : Delivery) (r : Reply) (es fs : List Entry) → with_taken d r (es ++ fs) ≡ with_taken d r es ++ fs
with_taken-append (Write caller epoch id command) r es fs = with_write-append r (entry_of caller epoch id command r) es fs
with_taken-append (Read caller query) r es fs = refl

taken-append : (ds es : List Delivery) (rs ss : List Reply) → length rs ≡ length ds → taken (ds ++ es) (rs ++ ss) ≡ taken ds rs ++ taken es ss
taken-append [] es [] ss same = refl
taken-append [] es (r ∷ rs) ss same = absurd (omega arith)
taken-append (d ∷ ds) es [] ss same = absurd (omega arith)
taken-append (d ∷ ds) es (r ∷ rs) ss same = ap (with_taken d r) (taken-append ds es rs ss (omega arith)) ∙ with_taken-append d r (taken ds rs) (taken es ss)

-- an identity of an open epoch is in the history exactly where it was at the start or came since
abbrev pub HasSince : List Entry → List Entry → List Entry → Type 0
HasSince now h0 earlier = (i : Identity) → is_closed now i.epoch ≡ false → is_some (stored now i) ≡ (is_some (stored h0 i) || is_some (stored earlier i))

pub since_start : (h : List Entry) → HasSince h h []
since_start h i opened = sym (or-false (is_some (stored h i)))

pub since_old : (now h0 earlier : List Entry) (e : Entry) → HasSince now h0 earlier → has_identity now e ≡ true → HasSince now h0 (e ∷ earlier)
since_old now h0 earlier e since old i opened = ⊎_elim
    (λ (t : is_same e.identity i ≡ true).
    let there : is_some (stored now i) ≡ true = subst (λ (j : Identity). is_some (stored now j) ≡ true) (same_from e.identity i t) old in
    there ∙ sym (ap (λ o. is_some (stored h0 i) || is_some o) (stored_here e earlier i t) ∙ or-true (is_some (stored h0 i))))
    (λ (f : is_same e.identity i ≡ false).
    since i opened ∙ ap (λ o. is_some (stored h0 i) || is_some o) (sym (stored_there e earlier i f)))
    (cases_Bool (is_same e.identity i))

pub since_new : (now h0 earlier : List Entry) (e : Entry) → HasSince now h0 earlier → HasSince (e ∷ now) h0 (e ∷ earlier)
since_new now h0 earlier e since i opened = ⊎_elim
    (λ (t : is_same e.identity i ≡ true).
    ap is_some (stored_here e now i t) ∙ sym (ap (λ o. is_some (stored h0 i) || is_some o) (stored_here e earlier i t) ∙ or-true (is_some (stored h0 i))))
    (λ (f : is_same e.identity i ≡ false).
    ap is_some (stored_there e now i f) ∙ since i (open_before e now i.epoch opened) ∙ ap (λ o. is_some (stored h0 i) || is_some o) (sym (stored_there e earlier i f)))
    (cases_Bool (is_same e.identity i))

-- what came of a closed epoch says nothing of the open ones
pub since_closed : (now h0 earlier : List Entry) (e : Entry) → HasSince now h0 earlier → is_closed now e.identity.epoch ≡ true → HasSince now h0 (e ∷ earlier)
since_closed now h0 earlier e since closed i opened = ⊎_elim
    (λ (t : is_same e.identity i ≡ true).
    let here : is_closed now i.epoch ≡ true = subst (λ (j : Identity). is_closed now j.epoch ≡ true) (same_from e.identity i t) closed in
    absurd (cc))
    (λ (f : is_same e.identity i ≡ false).
    since i opened ∙ ap (λ o. is_some (stored h0 i) || is_some o) (sym (stored_there e earlier i f)))
    (cases_Bool (is_same e.identity i))

-- one that came before is dropped
pub dropped : (now h0 earlier : List Entry) (e : Entry) (es : List Entry) → HasSince now h0 earlier → is_closed now e.identity.epoch ≡ false → has_identity now e ≡ true →
    hist now (cond (has_identity h0 e || has_identity earlier e) es (e ∷ es)) ≡ hist now es
dropped now h0 earlier e es since opened old = ap (λ b. hist now (cond b es (e ∷ es))) (sym (since e.identity opened) ∙ old)

-- and a new one is added
pub added : (now h0 earlier : List Entry) (e : Entry) (es : List Entry) → HasSince now h0 earlier → is_closed now e.identity.epoch ≡ false → has_identity now e ≡ false →
    hist now (cond (has_identity h0 e || has_identity earlier e) es (e ∷ es)) ≡ hist (e ∷ now) es
added now h0 earlier e es since opened new =
    ap (λ b. hist now (cond b es (e ∷ es))) (sym (since e.identity opened) ∙ new) ∙ ap (λ c. cond c (hist now es) (hist (e ∷ now) es)) opened

-- the three things that may come of an entry
pub each_way : (now : List Entry) (e : Entry) {P : Type 0} → (is_closed now e.identity.epoch ≡ true → P) → (is_closed now e.identity.epoch ≡ false → has_identity now e ≡ true → P) →
    (is_closed now e.identity.epoch ≡ false → has_identity now e ≡ false → P) → P
each_way now e closed old new =
    ⊎_elim closed (λ (opened : is_closed now e.identity.epoch ≡ false). ⊎_elim (old opened) (new opened) (cases_Bool (has_identity now e))) (cases_Bool (is_closed now e.identity.epoch))

-- Entries of an identity that is there are dropped, those of closed epochs passed over, and others added, whichever of the two lists tells it.
one_by_one : (h0 now earlier now' later fs : List Entry) → HasSince now' h0 earlier → HasSince now' now later →
    hist now' (first_after h0 earlier fs) ≡ hist now' (first_after now later fs)
one_by_one h0 now earlier now' later [] since both = refl
one_by_one h0 now earlier now' later (f ∷ fs) since both =
    let one = first_after h0 (f ∷ earlier) fs in
    let two = first_after now (f ∷ later) fs in
    each_way now' f
    (λ closed. passed_over now' (has_identity h0 f || has_identity earlier f) f one closed
    ∙ one_by_one h0 now (f ∷ earlier) now' (f ∷ later) fs (since_closed now' h0 earlier f since closed) (since_closed now' now later f both closed)
    ∙ sym (passed_over now' (has_identity now f || has_identity later f) f two closed))
    (λ opened old. dropped now' h0 earlier f one since opened old
    ∙ one_by_one h0 now (f ∷ earlier) now' (f ∷ later) fs (since_old now' h0 earlier f since old) (since_old now' now later f both old)
    ∙ sym (dropped now' now later f two both opened old))
    (λ opened new. added now' h0 earlier f one since opened new
    ∙ one_by_one h0 now (f ∷ earlier) (f ∷ now') (f ∷ later) fs (since_new now' h0 earlier f since) (since_new now' now later f both)
    ∙ sym (added now' now later f two both opened new))

goes_on : (h0 earlier now es fs : List Entry) → HasSince now h0 earlier →
    hist now (first_after h0 earlier (es ++ fs)) ≡ hist (hist now (first_after h0 earlier es)) (first (hist now (first_after h0 earlier es)) fs)
goes_on h0 earlier now [] fs since = one_by_one h0 now earlier now [] fs since (since_start now)
goes_on h0 earlier now (e ∷ es) fs since =
    let one = first_after h0 (e ∷ earlier) (es ++ fs) in
    let two = first_after h0 (e ∷ earlier) es in
    let rest = λ (h : List Entry). hist h (first h fs) in
    each_way now e
    (λ closed. passed_over now (has_identity h0 e || has_identity earlier e) e one closed
    ∙ goes_on h0 (e ∷ earlier) now es fs (since_closed now h0 earlier e since closed)
    ∙ sym (ap rest (passed_over now (has_identity h0 e || has_identity earlier e) e two closed)))
    (λ opened old. dropped now h0 earlier e one since opened old
    ∙ goes_on h0 (e ∷ earlier) now es fs (since_old now h0 earlier e since old)
    ∙ sym (ap rest (dropped now h0 earlier e two since opened old)))
    (λ opened new. added now h0 earlier e one since opened new
    ∙ goes_on h0 (e ∷ earlier) (e ∷ now) es fs (since_new now h0 earlier e since)
    ∙ sym (ap rest (added now h0 earlier e two since opened new)))

-- histories of a list in two parts
pub first-append : (h0 es fs : List Entry) → hist h0 (first h0 (es ++ fs)) ≡ hist (hist h0 (first h0 es)) (first (hist h0 (first h0 es)) fs)
first-append h0 es fs = goes_on h0 [] h0 es fs (since_start h0)

pub history_after-append : (h0 : List Entry) (ds es : List Delivery) (rs ss : List Reply) → length rs ≡ length ds →
    history_after h0 (ds ++ es) (rs ++ ss) ≡ history_after (history_after h0 ds rs) es ss
history_after-append h0 ds es rs ss same = ap (λ xs. hist h0 (first h0 xs)) (taken-append ds es rs ss same) ∙ first-append h0 (taken ds rs) (taken es ss)

-- counts of two runs, of which the second begins where the first one ends
joined-append : (from mid to : ℕ) (cs os : List (ℕ × ℕ)) → CountsFollow from cs mid → CountsFollow mid os to → CountsFollow from (cs ++ os) to
joined-append from mid to [] os one other = subst (λ n. CountsFollow n os to) one other
joined-append from mid to (c ∷ cs) os one other = (one.0, joined-append c.1 mid to cs os one.1 other)

right_at : (h0 : List Entry) (ds : List Delivery) (rs : List Reply) {h : List Entry} {d d' : Delivery} {r r' : Reply} {c c' : ℕ × ℕ} →
    history_after h0 ds rs ≡ h → d ≡ d' → r ≡ r' → c ≡ c' → IsRight h d r c.0 c.1 → IsRight (history_after h0 ds rs) d' r' c'.0 c'.1
right_at h0 ds rs p u v x = subst (λ (t : List Entry × Delivery × Reply × (ℕ × ℕ)). IsRight t.0 t.1 t.2 (t.3).0 (t.3).1) (λ i. (sym p i, u i, v i, x i))

module _ (h0 : List Entry) (ds es : List Delivery) (rs ss : List Reply) (cs os : List (ℕ × ℕ)) (one : AreRight h0 ds rs cs) (other : AreRight (history_after h0 ds rs) es ss os) where
  early : (i : ℕ) (d : Delivery) (r : Reply) (c : ℕ × ℕ) → i < length ds →
      IsRight (history_after h0 (take i (ds ++ es)) (take i (rs ++ ss))) (get_or (ds ++ es) i d) (get_or (rs ++ ss) i r) (get_or (cs ++ os) i c).0 (get_or (cs ++ os) i c).1
  early i d r c below =
      let same = one.replies in
      let long = one.counted in
      right_at h0 (take i (ds ++ es)) (take i (rs ++ ss))
      (λ k. history_after h0 (take-append-le i ds es (omega arith) k) (take-append-le i rs ss (omega arith) k))
      (sym (get_or_append_left ds es d i below))
      (sym (get_or_append_left rs ss r i (omega arith)))
      (sym (get_or_append_left cs os c i (omega arith)))
      (one.each i d r c below)

  late : (j : ℕ) (d : Delivery) (r : Reply) (c : ℕ × ℕ) → j < length es →
      IsRight (history_after h0 (take (length ds + j) (ds ++ es)) (take (length ds + j) (rs ++ ss))) (get_or (ds ++ es) (length ds + j) d) (get_or (rs ++ ss) (length ds + j) r)
      (get_or (cs ++ os) (length ds + j) c).0 (get_or (cs ++ os) (length ds + j) c).1
  late j d r c below =
      let same = one.replies in
      let taken_rs : take (length ds + j) (rs ++ ss) ≡ rs ++ take j ss = ap (λ n. take (n + j) (rs ++ ss)) (sym same) ∙ take-append-add rs ss j in
      let got_rs : get_or (rs ++ ss) (length ds + j) r ≡ get_or ss j r = ap (λ n. get_or (rs ++ ss) (n + j) r) (sym same) ∙ get_or-append-add rs ss j r in
      let got_cs : get_or (cs ++ os) (length ds + j) c ≡ get_or os j c = ap (λ n. get_or (cs ++ os) (n + j) c) (sym one.counted) ∙ get_or-append-add cs os j c in
      right_at h0 (take (length ds + j) (ds ++ es)) (take (length ds + j) (rs ++ ss))
      ((λ k. history_after h0 (take-append-add ds es j k) (taken_rs k)) ∙ history_after-append h0 ds (take j es) rs (take j ss) same)
      (sym (get_or-append-add ds es j d))
      (sym got_rs)
      (sym got_cs)
      (other.each j d r c below)

  -- replies of two lists are right for both
  pub right-append : AreRight h0 (ds ++ es) (rs ++ ss) (cs ++ os)
  right-append =
      let same = one.replies in
      let again = other.replies in
      let long = one.counted in
      let longer = other.counted in
      record {
        replies = omega (arith, length-append rs ss, length-append ds es);
        counted = omega (arith, length-append cs os, length-append ds es);
        each = λ i d r c below. ⊎_elim
            (λ (lt : i < length ds). early i d r c lt)
            (λ (ge : length ds ≤ i).
            let is : length ds + (i - length ds) ≡ i = omega arith in
            let less : i - length ds < length es = omega (arith, length-append ds es) in
            subst (λ n. IsRight (history_after h0 (take n (ds ++ es)) (take n (rs ++ ss))) (get_or (ds ++ es) n d) (get_or (rs ++ ss) n r)
            (get_or (cs ++ os) n c).0 (get_or (cs ++ os) n c).1) is (late (i - length ds) d r c less))
            (cases_lt i (length ds));
      }

-- what a stop within the first list leaves, and within the second
pub stops_early : (h0 : List Entry) (ds es : List Delivery) (rs ss : List Reply) (t : Tables) → length rs ≡ length ds → StopsWithin h0 ds rs t → StopsWithin h0 (ds ++ es) (rs ++ ss) t
stops_early h0 ds es rs ss t same w =
    let i = w.0 in
    let below : i < length ds = w.2 in (
      i,
      w.1,
      omega (arith, length-append ds es),
      subst (λ (p : List Entry × Delivery). HasEffect p.0 p.1 t)
          (λ k. (history_after h0 (sym (take-append-le i ds es (omega arith)) k) (sym (take-append-le i rs ss (omega arith)) k), sym (get_or_append_left ds es w.1 i below) k)) w.3,
    )

pub stops_late : (h0 : List Entry) (ds es : List Delivery) (rs ss : List Reply) (t : Tables) → length rs ≡ length ds → StopsWithin (history_after h0 ds rs) es ss t → StopsWithin h0 (ds ++ es) (rs ++ ss) t
stops_late h0 ds es rs ss t same w =
    let i = w.0 in
    let below : i < length es = w.2 in
    let taken_rs : take (length ds + i) (rs ++ ss) ≡ rs ++ take i ss = ap (λ n. take (n + i) (rs ++ ss)) (sym same) ∙ take-append-add rs ss i in
    let there : history_after h0 (take (length ds + i) (ds ++ es)) (take (length ds + i) (rs ++ ss)) ≡ history_after (history_after h0 ds rs) (take i es) (take i ss) =
    (λ k. history_after h0 (take-append-add ds es i k) (taken_rs k)) ∙ history_after-append h0 ds (take i es) rs (take i ss) same in (
      length ds + i,
      w.1,
      omega (arith, length-append ds es),
      subst (λ (p : List Entry × Delivery). HasEffect p.0 p.1 t) (λ k. (sym there k, sym (get_or-append-add ds es i w.1) k)) w.3,
    )

-- a run of one list followed by a run of another is the run of both
pub run-append : (h0 : List Entry) (ds es : List Delivery) (rs ss : List Reply) (old mid new : Shown) →
    IsRun h0 ds rs old mid → IsRun (history_after h0 ds rs) es ss mid new → IsRun h0 (ds ++ es) (rs ++ ss) old new
run-append h0 ds es rs ss old mid new one other =
    let grown = history_after-append h0 ds es rs ss one.right.replies in
    record {
      history = subst IsHistory (sym grown) other.history;
      view = subst (λ h. Views h new.tables) (sym grown) other.view;
      counts = one.counts ++ other.counts;
      right = right-append h0 ds es rs ss one.counts other.counts one.right other.right;
      follow = joined-append old.faults mid.faults new.faults one.counts other.counts one.follow other.follow;
      stops = λ t x. ⊎_elim
          (λ (y : mid.stops t). ⊎_elim (λ (z : old.stops t). inl z) (λ (w : StopsWithin h0 ds rs t). inr (stops_early h0 ds es rs ss t one.right.replies w)) (one.stops t y))
          (λ (w : StopsWithin (history_after h0 ds rs) es ss t). inr (stops_late h0 ds es rs ss t one.right.replies w))
          (other.stops t x);
      since = λ since. subst (λ h. StopGoesOnFrom h new) (sym grown) (other.since (one.since since));
    }

pub run_none : (h : List Entry) (s : Shown) → IsHistory h → Views h s.tables → IsRun h [] [] s s
run_none h s history view = record {
  history = history;
  view = view;
  counts = [];
  right = record { replies = refl; counted = refl; each = λ i d r c below. absurd (omega arith) };
  follow = refl;
  stops = λ t x. inl x;
  since = λ since. since;
}

-- one delivery is a run
pub run_one : (h : List Entry) (d : Delivery) (r : Reply) (old new : Shown) → IsFormed d → IsHistory h → IsServed h d r old new → IsRun h (d ∷ []) (r ∷ []) old new
run_one h d r old new form history served = record {
  history = served.history;
  view = served.view;
  counts = (old.faults, new.faults) ∷ [];
  right = record { replies = refl; counted = refl; each = only };
  follow = (refl, refl);
  stops = λ t x. ⊎_elim (λ (y : old.stops t). inl y) (λ (e : HasEffect h d t). inr (0, d, omega arith, e)) (served.stops t x);
  since = leaves_since h d r old new form history served;
}
  where
    only : (i : ℕ) (c : Delivery) (s : Reply) (n : ℕ × ℕ) → i < length (d ∷ []) →
        IsRight (history_after h (take i (d ∷ [])) (take i (r ∷ []))) (get_or (d ∷ []) i c) (get_or (r ∷ []) i s)
        (get_or ((old.faults, new.faults) ∷ []) i n).0 (get_or ((old.faults, new.faults) ∷ []) i n).1
    only zero c s n below = served.right
    only (suc i) c s n below = absurd (omega arith)

-- ==== runs of none, of one, and of two lists

-- the branches and the projects are sound in the history of a run
was_run : (ds : List Delivery) (rs : List Reply) (old new : Shown) → length rs ≡ length ds → AllFormed ds → (new.is_honest → old.is_honest)
    → (new.is_honest → (h : List Entry) → IsHistory h → Views h old.tables → IsRun h ds rs old new)
    → (new.is_honest → AreSteps ds rs old.tables new.tables) → CountsReplies rs old.faults new.faults → WasRun ds rs old new
was_run ds rs old new each formed honest run steps counted = record {
  each = each;
  formed = formed;
  goes_on = λ h before. history_formed ds rs h formed before;
  honest = honest;
  acts_once = run;
  branches = λ fair h hist v. sound_branches (history_after h ds rs) (run fair h hist v).history;
  projects = λ fair h hist v. sound_projects spelled_once (history_after h ds rs) (run fair h hist v).history;
  votes = λ fair h hist v reading right n c is. accounts_counted _ c;
  steps = steps;
  counted = counted;
}

pub ran_none : (s : Shown) → WasRun [] [] s s
ran_none s = was_run [] [] s s refl tt (λ fair. fair) (λ fair h hist v. run_none h s hist v) (λ fair. refl) refl

pub ran_one : (d : Delivery) (r : Reply) (old new : Shown) → IsDelivered d r old new → WasRun (d ∷ []) (r ∷ []) old new
ran_one d r old new did =
    was_run (d ∷ []) (r ∷ []) old new refl (did.formed, tt) did.honest
    (λ fair h hist v. run_one h d r old new did.formed hist (did.served fair h hist v))
    (λ fair. (new.tables, did.unchanged fair, did.once fair, refl)) (new.faults, did.counted, refl)

steps-append : (ds es : List Delivery) (rs ss : List Reply) (old mid new : Option Tables) → AreSteps ds rs old mid → AreSteps es ss mid new → AreSteps (ds ++ es) (rs ++ ss) old new
steps-append [] es [] ss old mid new one two = subst (λ (t : Option Tables). AreSteps es ss t new) one two
steps-append [] es (r ∷ rs) ss old mid new one two = absurd one
steps-append (d ∷ ds) es [] ss old mid new one two = absurd one
steps-append (d ∷ ds) es (r ∷ rs) ss old mid new one two = (one.0, one.1, one.2, steps-append ds es rs ss one.0 mid new one.3 two)

counts-append : (rs ss : List Reply) (old mid new : ℕ) → CountsReplies rs old mid → CountsReplies ss mid new → CountsReplies (rs ++ ss) old new
counts-append [] ss old mid new one two = subst (λ n. CountsReplies ss n new) one two
counts-append (r ∷ rs) ss old mid new one two = (one.0, one.1, counts-append rs ss one.0 mid new one.2 two)

-- one run and then another
pub ran-append : (ds es : List Delivery) (rs ss : List Reply) (old mid new : Shown) → WasRun ds rs old mid → WasRun es ss mid new → WasRun (ds ++ es) (rs ++ ss) old new
ran-append ds es rs ss old mid new one two =
    was_run (ds ++ es) (rs ++ ss) old new (omega (arith, one.each, two.each, length-append rs ss, length-append ds es)) (all_formed-append ds es one.formed two.formed) (λ fair. one.honest (two.honest fair))
    (λ fair h hist v.
    let first = one.acts_once (two.honest fair) h hist v in
    run-append h ds es rs ss old mid new first (two.acts_once fair (history_after h ds rs) first.history first.view))
    (λ fair. steps-append ds es rs ss old.tables mid.tables new.tables (one.steps (two.honest fair)) (two.steps fair))
    (counts-append rs ss old.faults mid.faults new.faults one.counted two.counted)

-- ==== runs with the shelf closed and opened between them

-- the counts of one session more
counts_with : (counts : List (List (ℕ × ℕ))) (last : List (ℕ × ℕ)) → all_counts (counts ++ last ∷ []) ≡ all_counts counts ++ last
counts_with [] last = append-nil last
counts_with (one ∷ later) last = ap (λ xs. one ++ xs) (counts_with later last) ∙ sym (append_assoc one (all_counts later) last)

follow_with : (sessions : List (ℕ × ℕ)) (counts : List (List (ℕ × ℕ))) (u v : ℕ) (last : List (ℕ × ℕ)) →
    CountsFollowIn sessions counts → CountsFollow u last v → CountsFollowIn (sessions ++ (u, v) ∷ []) (counts ++ last ∷ [])
follow_with [] [] u v last follow next = (next, tt)
follow_with [] (one ∷ later) u v last follow next = absurd follow
follow_with (session ∷ sessions) [] u v last follow next = absurd follow
follow_with (session ∷ sessions) (one ∷ later) u v last follow next = (follow.0, follow_with sessions later u v last follow.1 next)

-- the tables of a history, where a shelf with them was closed and opened again
views_on : (h : List Entry) (old new : Option Tables) → StaysOrShuts old new → Views h old → Views h new
views_on h old new (inl stays) view = subst (Views h) (sym stays) view
views_on h old new (inr shut) view = subst (Views h) (sym shut) tt

pub run_is_session : {S : Type 0} (state : S → Shown) → RunIsSession state
run_is_session state h0 ds rs s t run = record {
  history = run.history;
  view = run.view;
  counts = run.counts ∷ [];
  right = subst (AreRight h0 ds rs) (sym (append-nil run.counts)) run.right;
  follow = (run.follow, tt);
  stops = run.stops;
  since = run.since;
}

pub runs_go_on : {S : Type 0} (state : S → Shown) → RunsGoOn state
runs_go_on state h0 ds es rs ss sessions s t u v one stays no_more next =
    let two = next (history_after h0 ds rs) one.history (views_on (history_after h0 ds rs) (state t).tables (state u).tables stays one.view) in
    let grown = history_after-append h0 ds es rs ss one.right.replies in
    let before = all_counts one.counts in
    record {
      history = subst IsHistory (sym grown) two.history;
      view = subst (λ h. Views h (state v).tables) (sym grown) two.view;
      counts = one.counts ++ two.counts ∷ [];
      right = subst (AreRight h0 (ds ++ es) (rs ++ ss)) (sym (counts_with one.counts two.counts)) (right-append h0 ds es rs ss before two.counts one.right two.right);
      follow = follow_with sessions one.counts (state u).faults (state v).faults two.counts one.follow two.follow;
      stops = λ x left. ⊎_elim
          (λ (y : (state u).stops x). ⊎_elim (λ (z : (state s).stops x). inl z) (λ (w : StopsWithin h0 ds rs x). inr (stops_early h0 ds es rs ss x one.right.replies w)) (one.stops x (no_more x y)))
          (λ (w : StopsWithin (history_after h0 ds rs) es ss x). inr (stops_late h0 ds es rs ss x one.right.replies w))
          (two.stops x left);
      since = λ since. subst (λ h. StopGoesOnFrom h (state v)) (sym grown) (two.since (λ x left. one.since since x (no_more x left)));
    }
