-- Look-ups one after the other.
use Rattle.review_sql_tables.proofs.Common.{Some, ap, ◌≡◌, ◌∙◌, inl, inr, ℕ, ◌+◌, ◌<◌, Bool, true, false, List, take, get_or, length, Result, Ok, Err, refl, sym, subst, OnOk, same_Some, AllocError, Held, state, State, Error, Trees, Ghosts, Looks}
use Rattle.review_machine_rows.proofs.Looked.{asked_more, one_agrees}
use Rattle.review_machine_rows.specs.Known.{group_of, Found, IsFound, Learns}
use Rattle.review_sql_records.proofs.Common.{look_on, look_both, AgreesBeside, AreAsked, Rows, Want}
use Rattle.review_sql_lookups.specs.{Loads.AreBounded, Tables.tables_at, declared.counts.Counts.Counts}
use Rattle.review_sql.specs.Loading.{HasLearnt, LearnsBounded, LearnsSeen, LooksIf, LooksOnce, WereSeen, learnt_by}
use Rattle.review_sql.specs.declared.loading.Ended.{Ended}
use Rattle.review_machine_rows.specs.declared.rows.Want.TheVariants as want
use Rattle.review_sql.specs.declared.loading.Ended.TheVariants as ended

-- what rows know beside the first ones is so, and what is known of counts, where what was known is so
abbrev pub Have : Rows → Rows → Counts → Counts → Trees → Unit {0} → Type 0
Have first rows before more db u = AreBounded before (tables_at db) → AgreesBeside (tables_at db) first rows × AreBounded more (tables_at db)

-- the look-up of a group's members
pub is_group : (w : Want) (group : List ℕ) → Some group ≡ group_of w → w ≡ want.Group group
is_group (want.Group g) group is = ap want.Group (sym (same_Some group g is))
is_group w group is = absurd (cc)

-- rows learnt what was found, or there was no memory for it
pub learnt_seen : (w : Want) (f : Found) (old new : Rows) (db : Trees) (r : Result (Unit {0}) AllocError) → OnOk r (Learns w f old new) → IsFound (tables_at db) w f → LearnsSeen w old new db (learnt_by r)
learnt_seen w f old new db (Ok u) learns is = (f, is, learns)
learnt_seen w f old new db (Err e) learns is = tt

pub has_learnt : (w : Want) (f : Found) (old new : Rows) (r : Result (Unit {0}) AllocError) → OnOk r (Learns w f old new) → learnt_by r ≡ ended.Learnt → HasLearnt w old new
has_learnt w f old new (Ok u) learns is = (f, learns)
has_learnt w f old new (Err e) learns is = absurd (cc)

-- one more look-up was asked
pub learnt_asked : (wants : List Want) (i : ℕ) (w : Want) (first old new : Rows) → i < length wants → w ≡ get_or wants i w → AreAsked (take i wants) first old → HasLearnt w old new → AreAsked (take (i + 1) wants) first new
learnt_asked wants i w first old new below is asked learnt = asked_more wants i w learnt.0 first old new below is asked learnt.1

-- a look-up that failed tells nothing
failed : {X Y : Type 0} (F : Trees → X → Type 0) (G : Trees → Y → Type 0) (a b : State) (e f : Error) → Looks F a b (Err e) → Looks G a b (Err f)
failed F G a b e f it = record { found = λ _ _ _. tt; kept = λ clean on. ((it.kept clean on).0, tt); survives = it.survives }

module _ {S X Y : Type 0} (g : Ghosts S) (F : Trees → Unit {0} → Type 0) (G : Trees → X → Type 0) (H : Trees → Y → Type 0) (a b c : Held S) where
  -- one look-up more was made, after statements or none
  pub one_more : (was now : Bool) (x : X) (y : Y) → ((db : Trees) → F db tt → G db x → H db y) → LooksIf g was F a b (Ok tt) → LooksOnce g was now G b c (Ok x) → LooksIf g now H a c (Ok y)
  one_more true now x y tells have (inl none) =
      subst (λ is. LooksIf g is H a c (Ok y)) (sym none.0)
      (subst (λ (h : Held S). Looks H (state g a) (state g h) (Ok y)) (sym none.1.0) (look_on F H (state g a) (state g b) tt (Ok y) have (λ db h. tells db h (none.1.1 db))))
  one_more false now x y tells have (inl none) = subst (λ is. LooksIf g is H a c (Ok y)) (sym none.0) (none.1.0 ∙ have.0, λ db. tells db (have.1 db) (none.1.1 db))
  one_more true now x y tells have (inr asked) =
      subst (λ is. LooksIf g is H a c (Ok y)) (sym asked.0)
      (look_on (λ db x. F db tt × G db x) H (state g a) (state g c) x (Ok y) (look_both F G (state g a) (state g b) (state g c) tt (Ok x) have asked.1) (λ db h. tells db h.0 h.1))
  one_more false now x y tells have (inr asked) =
      subst (λ is. LooksIf g is H a c (Ok y)) (sym asked.0) (look_on G H (state g a) (state g c) x (Ok y) (from_first (Ok x) have.0 asked.1) (λ db h. tells db (have.1 db) h))
    where
      from_first : (r : Result X Error) → b ≡ a → Looks G (state g b) (state g c) r → Looks G (state g a) (state g c) r
      from_first r same it = subst (λ (h : Held S). Looks G (state g h) (state g c) r) same it

  -- it failed
  pub one_failed : (was now : Bool) (e f : Error) → LooksIf g was F a b (Ok tt) → LooksOnce g was now G b c (Err e) → LooksIf g now H a c (Err f)
  one_failed was now e f have (inl none) = absurd none.1
  one_failed true now e f have (inr asked) =
      subst (λ is. LooksIf g is H a c (Err f)) (sym asked.0) (failed (λ db x. F db tt × G db x) H (state g a) (state g c) e f (look_both F G (state g a) (state g b) (state g c) tt (Err e) have asked.1))
  one_failed false now e f have (inr asked) =
      subst (λ is. LooksIf g is H a c (Err f)) (sym asked.0) (failed G H (state g a) (state g c) e f (subst (λ (h : Held S). Looks G (state g h) (state g c) (Err e)) have.0 asked.1))

module _ (w : Want) (first old new : Rows) (before mid more : Counts) (db : Trees) (have : Have first old before mid db tt) where
  -- what is known then, where the look-up learnt
  pub have_more : LearnsBounded w old new mid more db ended.Learnt → Have first new before more db tt
  have_more sees bounded = let was = have bounded in let s = sees was.1 in (one_agrees (tables_at db) w first old new s.0 was.0, s.1)

  -- and where it didn't
  pub seen_unlearnt : (e : Ended) → (e ≡ ended.Learnt → ⊥) → LearnsBounded w old new mid more db e → WereSeen first new before more db e
  seen_unlearnt ended.Learnt other sees bounded = absurd (other refl)
  seen_unlearnt ended.NoMemory other sees bounded = (tt, (sees (have bounded).1).1)
  seen_unlearnt ended.Damaged other sees bounded = sees (have bounded).1

-- a look-up that didn't learn is the last
pub ended_unlearnt : {S : Type 0} (g : Ghosts S) (w : Want) (first old new : Rows) (before mid more : Counts) (a b c : Held S) (was now : Bool) (end e : Ended) → end ≡ e → (e ≡ ended.Learnt → ⊥)
    → LooksIf g was (Have first old before mid) a b (Ok tt) → LooksOnce g was now (LearnsBounded w old new mid more) b c (Ok end) → LooksIf g now (WereSeen first new before more) a c (Ok e)
ended_unlearnt g w first old new before mid more a b c was now end e met other have once =
    one_more g (Have first old before mid) (LearnsBounded w old new mid more) (WereSeen first new before more) a b c was now e e (λ db it sees. seen_unlearnt w first old new before mid more db it e other sees) have
    (subst (λ s. LooksOnce g was now (LearnsBounded w old new mid more) b c (Ok s)) met once)

-- where no statement was made before, the row of the desk was asked for
module _ {S X D : Type 0} (g : Ghosts S) (F : Trees → X → Type 0) (G : Trees → D → Type 0) (a b c : Held S) where
  pub seen_open : (x : X) (d : D) → LooksIf g false F a b (Ok x) → Looks G (state g b) (state g c) (Ok d) → Looks F (state g a) (state g c) (Ok x)
  seen_open x d have desk = look_on G F (state g a) (state g c) d (Ok x) (subst (λ (h : Held S). Looks G (state g h) (state g c) (Ok d)) have.0 desk) (λ db h. have.1 db)

-- all were made
pub all_seen : {S : Type 0} (g : Ghosts S) (is : Bool) (first rows : Rows) (before more : Counts) (a b : Held S) →
    LooksIf g is (Have first rows before more) a b (Ok tt) → LooksIf g is (WereSeen first rows before more) a b (Ok ended.Learnt)
all_seen g true first rows before more a b it = look_on (Have first rows before more) (WereSeen first rows before more) (state g a) (state g b) tt (Ok ended.Learnt) it (λ db h. h)
all_seen g false first rows before more a b it = (it.0, λ db. it.1 db)
