-- The changes of a history: which there are, what each was made for, and that each is sound.
use Rattle.std.proofs.Common.{◌≡◌, ℕ, ◌+◌, List, length, Option, Some, None, refl, subst, is_some, ◌<◌, ◌≤◌, ◌==◌, [], ◌∷◌, Bool, true, false, cond, ◌&&◌, ◌||◌, sym, ap, ◌∙◌, ⊎_elim, arith, leb-true, IsSome, nat_le, option_map, bytes_eq, ◌++◌, eqb-true, MatchOption, zero, suc, ltb-true}
use Rattle.std.proofs.lemmas.Bool.{cases_lt, and_parts, cases_Bool}
use Rattle.review_names.specs.Forms.{is_within, most_comments, most_changes}
use Rattle.review_words.specs.History.{Entry, accepted, if_done, is_account}
use Rattle.review_words.specs.declared.changes.Review.{Review as ReviewOf}
use Rattle.review_words.specs.declared.command.Command.TheVariants.{CreateChange, OnChange}
use Rattle.review_words.specs.declared.reply.Refusal.TheVariants.{UnknownCaller, NoComment, Limit}
use Rattle.review_core_rules.proofs.Stays.{joins as joined_sound}
use Rattle.review_core_rules.specs.Change.{Change, joined_at, after, begun, Copying, Setting, after_copying, copying, current, reviewed, said}
use Rattle.review_core_rules.specs.Sound.{IsSound, answer_stored, fits}
use Rattle.review_machine_rows.proofs.Common.{APart, AllByRecursion, Answer, ChangeCommand, Command, Done, Key, NewChange, Refusal, Refused, Reply, Row, TheHeader, fact, nat_tests, option_map_or, or-true, some_mapped, some_or}
use Rattle.review_machine_rows.proofs.Readings.{IsDoneBy, done_of}
use Rattle.review_machine_rows.specs.Answer.{IsAnswerBy, IsHistory, IsOutcome, checks, first_refusal, given_checks, of_change, refused_by, request_checks, said_checks}
use Rattle.review_machine_rows.specs.Changes.{joined, joining, joining_at, place_in, Reading, asked_of, change, change_after, change_by, change_count, change_counted, setting_of, submitted, is_for, is_made_for, made, made_by, Reads, some_change}
use Rattle.review_machine_rows.specs.{Desks.facts_of, Facts.DeskFacts, Known.IsLast, Known.header_key, Known.part_of}
use Rattle.review_words.specs.declared.command.ChangeCommand.TheVariants as on

-- ==== what becomes of a change where changes join their branch

joining_holds : (P : Change → Type 0) → ((place request : ℕ) (x : Change) → P x → P (joined_at place request x)) → (h : List Entry) (place : Option ℕ) (o : Option Change) (c : Change) →
    ((x : Change) → o ≡ Some x → P x) → joining_at h place o ≡ Some c → P c
joining_holds P joins h None o c before is = before c is
joining_holds P joins h (Some place) None c before is = absurd (cc)
joining_holds P joins h (Some place) (Some x) c before is =
    let same : joined_at (length (joined h x.project x.branch) + place) (length h + 1) x ≡ c = cc in
    subst P same (joins (length (joined h x.project x.branch) + place) (length h + 1) x (before x refl))

-- what holds of a change, and stays where it joins
pub joining_keeps : (P : Change → Type 0) → ((place request : ℕ) (x : Change) → P x → P (joined_at place request x)) → (h : List Entry) (js : List ℕ) (n : ℕ) (o : Option Change) (c : Change) →
    ((x : Change) → o ≡ Some x → P x) → joining h js n o ≡ Some c → P c
joining_keeps P joins h js n o c before is = joining_holds P joins h (place_in js n) o c before is

joining_some : (h : List Entry) (place : Option ℕ) (o : Option Change) → is_some (joining_at h place o) ≡ is_some o
joining_some h None o = refl
joining_some h (Some place) None = refl
joining_some h (Some place) (Some x) = refl

-- no change is made or dropped where changes join
pub joining_there : (h : List Entry) (js : List ℕ) (n : ℕ) (o : Option Change) → is_some (joining h js n o) ≡ is_some o
joining_there h js n o = joining_some h (place_in js n) o

-- ==== which changes there are

-- a number is one of the first so many
abbrev pub is_up_to : ℕ → ℕ → Bool
is_up_to c n = nat_le 1 n && nat_le n c

some_where : {X : Type 0} (b : Bool) (x o : Option X) → is_some x ≡ is_some o → is_some (cond b x o) ≡ is_some o
some_where true x o e = e
some_where false x o e = refl

one_more : (n c : ℕ) → ((c + 1 == n) || is_up_to c n) ≡ is_up_to (c + 1) n
one_more n c = grind (arith, nat_tests)

none_yet : (n : ℕ) → false ≡ is_up_to 0 n
none_yet n = grind (arith, nat_tests)

-- what is asked of a change makes and drops none
asked_stays : (reading : Reading) (h : List Entry) (caller : ℕ) (o : Option (ℕ × ChangeCommand)) (n : ℕ) (before : Option Change) → is_some (change_after reading h caller o n before) ≡ is_some before
asked_stays reading h caller None n before = refl
asked_stays reading h caller (Some on) n before =
    some_where (on.0 == n) (option_map (λ c. after (setting_of reading h c.project) on.1 caller (length h + 1) c) before) before
    (some_mapped (λ c. after (setting_of reading h c.project) on.1 caller (length h + 1) c) before)

there_step : (reading : Reading) (h : List Entry) (caller : ℕ) (o : Option Command) (n : ℕ) (before : Option Change) → is_some before ≡ is_up_to (change_count h) n →
    is_some (change_by reading h caller o n before) ≡ is_up_to (change_counted o (change_count h)) n
there_step reading h caller (Some (CreateChange new)) n before e = some_or (change_count h + 1 == n) _ before ∙ (ap (λ b. (change_count h + 1 == n) || b) e ∙ one_more n (change_count h))
there_step reading h caller (Some (OnChange m command)) n before e = asked_stays reading h caller (asked_of (OnChange m command)) n before ∙ e
there_step reading h caller _ n before e = e

-- the changes are those up to their count
pub change_there : (reading : Reading) (h : List Entry) (n : ℕ) → is_some (change reading h n) ≡ is_up_to (change_count h) n
change_there reading [] n = none_yet n
change_there reading (e ∷ h) n =
    joining_there h (submitted (accepted e) e.reply) n (change_by reading h e.identity.caller (accepted e) n (change reading h n))
    ∙ there_step reading h e.identity.caller (accepted e) n (change reading h n) (change_there reading h n)

-- a change is there where its header is
pub header_there : (o : Option Change) → is_some (option_map APart (part_of o TheHeader)) ≡ is_some o
header_there None = refl
header_there (Some c) = refl

up_to_itself : (c : ℕ) → 1 ≤ c → is_up_to c c ≡ true
up_to_itself c some = grind (arith, nat_tests)

-- the greatest number whose key has a row, where those up to a count have one
pub last_of : (key : ℕ → Key) (row : Key → Option Row) (count last : ℕ) → ((n : ℕ) → is_some (row (key n)) ≡ is_up_to count n) → IsLast key row last → last ≡ count
last_of key row count last there l =
    let reached : count ≤ last = ⊎_elim (λ (lt : last < count). absurd (not_above lt)) (λ (ge : count ≤ last). ge) (cases_lt last count) in ⊎_elim
    (λ (none : last ≡ 0). omega arith)
    (λ (some : IsSome (row (key last))).
    let p = and_parts (nat_le 1 last) (nat_le last count) (sym (there last) ∙ some) in
    let below : last ≤ count = leb-true last count p.1 in omega arith)
    l.there
  where
    not_above : last < count → ⊥
    not_above lt =
        let some : 1 ≤ count = omega arith in
        let bad : true ≡ false = sym (there count ∙ up_to_itself count some) ∙ ap is_some (l.above count lt) in
        absurd (cc)

-- the greatest number of a change is their count
pub last_change_is : (reading : Reading) (h : List Entry) (last : ℕ) → IsLast header_key (fact reading h) last → last ≡ change_count h
last_change_is reading h last l = last_of header_key (fact reading h) (change_count h) last (λ n. header_there (change reading h n) ∙ change_there reading h n) l

-- ==== a change is for the project and the branch that its CreateChange named

-- a new change was made, for the branch that a change is for
pub record MadeAs (m : Option NewChange) (c : Change) : Type 0 where
  pub new : NewChange
  pub is : m ≡ Some new
  pub project : new.project ≡ c.project
  pub branch : new.branch ≡ c.branch

made_or : (b : Bool) (new : NewChange) (caller request : ℕ) (m : Option NewChange) (o : Option Change) (c : Change) → ((x : Change) → o ≡ Some x → MadeAs m x) →
    cond b (Some (begun new caller request)) o ≡ Some c → MadeAs (cond b (Some new) m) c
made_or true new caller request m o c before is =
    let same : begun new caller request ≡ c = cc in
    record { new = new; is = refl; project = ap (λ (x : Change). x.project) same; branch = ap (λ (x : Change). x.branch) same }
made_or false new caller request m o c before is = before c is

asked_or : (b : Bool) (m : Option NewChange) (o : Option Change) (f : Change → Change) (c : Change) → ((x : Change) → (f x).project ≡ x.project) → ((x : Change) → (f x).branch ≡ x.branch) →
    ((x : Change) → o ≡ Some x → MadeAs m x) → cond b (option_map f o) o ≡ Some c → MadeAs m c
asked_or true m None f c project branch before is = absurd (cc)
asked_or true m (Some x) f c project branch before is =
    let same : f x ≡ c = cc in
    let was = before x refl in
    record {
      new = was.new;
      is = was.is;
      project = was.project ∙ (sym (project x) ∙ ap (λ (y : Change). y.project) same);
      branch = was.branch ∙ (sym (branch x) ∙ ap (λ (y : Change). y.branch) same);
    }
asked_or false m o f c project branch before is = before c is

made_step : (reading : Reading) (h : List Entry) (caller : ℕ) (o : Option Command) (n : ℕ) (c : Change) → ((x : Change) → change reading h n ≡ Some x → MadeAs (made h n) x) →
    change_by reading h caller o n (change reading h n) ≡ Some c → MadeAs (made_by o (change_count h + 1) n (made h n)) c
made_step reading h caller (Some (CreateChange new)) n c before is = made_or (change_count h + 1 == n) new caller (length h + 1) (made h n) (change reading h n) c before is
made_step reading h caller (Some (OnChange m command)) n c before is =
    asked_or (m == n) (made h n) (change reading h n) (λ x. after (setting_of reading h x.project) command caller (length h + 1) x) c (λ x. refl) (λ x. refl) before is
made_step reading h caller _ n c before is = before c is

-- the change of a number was made, for its branch
pub made_as : (reading : Reading) (h : List Entry) (n : ℕ) (c : Change) → change reading h n ≡ Some c → MadeAs (made h n) c
made_as reading [] n c is = absurd (cc)
made_as reading (e ∷ h) n c is =
    joining_keeps (MadeAs (made (e ∷ h) n)) (λ place request x m. record { new = m.new; is = m.is; project = m.project; branch = m.branch }) h (submitted (accepted e) e.reply) n
    (change_by reading h e.identity.caller (accepted e) n (change reading h n)) c
    (λ x there. made_step reading h e.identity.caller (accepted e) n x (λ y was. made_as reading h n y was) there) is

-- it was made for the branches that it is for
pub made_for : (reading : Reading) (h : List Entry) (n : ℕ) (c : Change) (project branch : List ℕ) → change reading h n ≡ Some c → is_made_for h project branch n ≡ is_for project branch c
made_for reading h n c project branch is =
    let m = made_as reading h n c is in
    ap (λ o. option_map_or (λ (new : NewChange). bytes_eq new.project project && bytes_eq new.branch branch) o false) m.is
    ∙ (λ i. bytes_eq (m.project i) project && bytes_eq (m.branch i) branch)

-- ==== every change of a history is sound

-- a new change is sound, and stays so
abbrev pub BeginsSound : Type 0
BeginsSound = (n : NewChange) (caller request : ℕ) → IsSound (begun n caller request)

abbrev pub StaysSound : Type 0
StaysSound = (k : Copying) (command : ChangeCommand) (caller request : ℕ) (c : Change) → IsSound c → fits command c ≡ true → IsSound (after_copying k command caller request c)

-- a check that passes
abbrev pub Passes : Bool × Refusal → Type 0
Passes check = check.0 ≡ true

-- where no check refuses, all pass
pub all_pass : (checks : List (Bool × Refusal)) → first_refusal checks ≡ None → AllByRecursion Passes checks
all_pass [] none = tt
all_pass (c ∷ cs) none = ⊎_elim
    (λ (t : c.0 ≡ true). (t, all_pass cs (sym (ap (λ b. cond b (first_refusal cs) (Some c.1)) t) ∙ none)))
    (λ (f : c.0 ≡ false). let bad : Some c.1 ≡ None = sym (ap (λ b. cond b (first_refusal cs) (Some c.1)) f) ∙ none in absurd (cc))
    (cases_Bool c.0)

pub later_pass : (xs ys : List (Bool × Refusal)) → AllByRecursion Passes (xs ++ ys) → AllByRecursion Passes ys
later_pass [] ys all = all
later_pass (x ∷ xs) ys all = later_pass xs ys all.1

unrefused : (A : Type 0) (o : Option Refusal) (a : Answer) → MatchOption o A (λ r. Done a ≡ Refused r) → o ≡ None
unrefused A None a outcome = refl
unrefused A (Some r) a refused = absurd (cc)

-- of a command that was done all checks passed
pub done_passes : (reading : Reading) (h : List Entry) (caller : ℕ) (command : Command) (a : Answer) → IsAnswerBy reading h caller command (Done a) → refused_by reading h caller command ≡ None
done_passes reading h caller command a answer = unrefused (IsOutcome reading h caller command (Done a)) (refused_by reading h caller command) a answer

-- a change that is there, of a command on it that was done
pub checks_pass : (reading : Reading) (h : List Entry) (caller : ℕ) (each : Change → List (Bool × Refusal)) (o : Option Change) (c : Change) → o ≡ Some c →
    first_refusal ((is_account h caller, UnknownCaller) ∷ of_change each o) ≡ None → AllByRecursion Passes (each c)
checks_pass reading h caller each o c is none = subst (λ x. AllByRecursion Passes (of_change each x)) is (all_pass ((is_account h caller, UnknownCaller) ∷ of_change each o) none).1

three : (a b c : Bool) → a ≡ true → b ≡ true → c ≡ true → (a && (b && c)) ≡ true
three a b c p q r = λ i. p i && (q i && r i)

-- a request on a change fits it where its checks pass, by whatever facts
pub request_fits : (facts : DeskFacts) (caller : ℕ) (command : ChangeCommand) (c : Change) → AllByRecursion Passes (request_checks facts caller command c) → fits command c ≡ true
request_fits facts caller (on.Upload patch) c pass = pass.1.1.1.1.0
request_fits facts caller (on.Review review) c pass =
    let rest = later_pass (given_checks facts (facts.file c.project) caller review c review.labels) (said_checks review c) pass.1 in
    three (is_within (current c) (reviewed review c)) (answer_stored (length c.comments) review.comments) (nat_le (length c.comments + length (said review)) most_comments) pass.0 rest.0 rest.1.0
request_fits facts caller (on.AddAttention account reason) c pass = pass.1.1.0
request_fits facts caller _ c pass = refl

-- ---- what holds of every change of a history

-- It holds of a new change, and stays where a change joins its branch, and where a request changes it whose checks pass.
pub record Stays (P : Change → Type 0) (reading : Reading) : Type 0 where
  pub begins : (new : NewChange) (caller request : ℕ) → P (begun new caller request)
  pub joins : (place request : ℕ) (c : Change) → P c → P (joined_at place request c)
  pub stays : (h : List Entry) (caller : ℕ) (command : ChangeCommand) (c : Change) → AllByRecursion Passes (request_checks (facts_of reading h) caller command c) → P c →
      P (after (setting_of reading h c.project) command caller (length h + 1) c)

pub named_holds : (P : Change → Type 0) (b : Bool) (o : Option Change) (f : Change → Change) (c : Change) → ((x : Change) → o ≡ Some x → P x) → (b ≡ true → (x : Change) → o ≡ Some x → P x → P (f x)) →
    cond b (option_map f o) o ≡ Some c → P c
named_holds P true None f c before then is = absurd (cc)
named_holds P true (Some x) f c before then is = let same : f x ≡ c = cc in subst P same (then refl x refl (before x refl))
named_holds P false o f c before then is = before c is

pub made_holds : (P : Change → Type 0) (b : Bool) (o : Option Change) (new c : Change) → ((x : Change) → o ≡ Some x → P x) → P new → cond b (Some new) o ≡ Some c → P c
made_holds P true o new c before begins is = let same : new ≡ c = cc in subst P same begins
made_holds P false o new c before begins is = before c is

done_holds : (P : Change → Type 0) (reading : Reading) → Stays P reading → (h : List Entry) (caller n : ℕ) (c : Change) (command : Command) (a : Answer) → IsAnswerBy reading h caller command (Done a) →
    ((x : Change) → change reading h n ≡ Some x → P x) → change_by reading h caller (Some command) n (change reading h n) ≡ Some c → P c
done_holds P reading s h caller n c (CreateChange new) a answer before is =
    made_holds P (change_count h + 1 == n) (change reading h n) (begun new caller (length h + 1)) c before (s.begins new caller (length h + 1)) is
done_holds P reading s h caller n c (OnChange m command) a answer before is =
    named_holds P (m == n) (change reading h n) (λ x. after (setting_of reading h x.project) command caller (length h + 1) x) c before
    (λ same x there holds.
    let pass = checks_pass reading h caller (request_checks (facts_of reading h) caller command) (change reading h m) x (ap (change reading h) (eqb-true m n same) ∙ there) (done_passes reading h caller (OnChange m command) a answer) in
    s.stays h caller command x pass holds)
    is
done_holds P reading s h caller n c _ a answer before is = before c is

step_holds : (P : Change → Type 0) (reading : Reading) → Stays P reading → (h : List Entry) (caller n : ℕ) (c : Change) (command : Command) (reply : Reply) → IsDoneBy reading h caller command reply →
    ((x : Change) → change reading h n ≡ Some x → P x) → change_by reading h caller (if_done reply command) n (change reading h n) ≡ Some c → P c
step_holds P reading s h caller n c command (Done a) answer before is = done_holds P reading s h caller n c command a answer before is
step_holds P reading s h caller n c command _ answer before is = before c is

-- what stays holds of every change of a history
pub of_each : (P : Change → Type 0) (reading : Reading) → Stays P reading → (h : List Entry) (n : ℕ) (c : Change) → IsHistory h → Reads reading h → change reading h n ≡ Some c → P c
of_each P reading s [] n c history reads is = absurd (cc)
of_each P reading s (e ∷ h) n c history reads is =
    joining_keeps P s.joins h (submitted (accepted e) e.reply) n (change_by reading h e.identity.caller (accepted e) n (change reading h n)) c
    (λ x there. step_holds P reading s h e.identity.caller n x e.command e.reply (done_of e h history reading reads.1) (λ y was. of_each P reading s h n y history.3 reads.1 was) there) is

pub are_sound : BeginsSound → StaysSound → (reading : Reading) (h : List Entry) (n : ℕ) (c : Change) → IsHistory h → Reads reading h → change reading h n ≡ Some c → IsSound c
are_sound begins stays reading =
    of_each IsSound reading
    (record {
      begins = begins;
      joins = joined_sound;
      stays = λ h caller command x pass sound. stays (copying (setting_of reading h x.project) command caller x) command caller (length h + 1) x sound (request_fits (facts_of reading h) caller command x pass);
    })

-- ==== whether one of the changes of a history passes a test

-- one up to a number passes, where a change of no greater number does
pub passes_up_to : (reading : Reading) (h : List Entry) (test : Change → Bool) (k n : ℕ) (c : Change) → 1 ≤ n → n ≤ k → change reading h n ≡ Some c → test c ≡ true → some_change reading h test k ≡ true
passes_up_to reading h test zero n c one below is passes = absurd (omega arith)
passes_up_to reading h test (suc k) n c one below is passes = ⊎_elim
    (λ (lt : n < suc k).
    ap (λ b. option_map_or test (change reading h (suc k)) false || b) (passes_up_to reading h test k n c one (omega arith) is passes) ∙ or-true (option_map_or test (change reading h (suc k)) false))
    (λ (ge : suc k ≤ n).
    let same : n ≡ suc k = omega arith in
    ap (λ o. option_map_or test o false || some_change reading h test k) (ap (change reading h) (sym same) ∙ is) ∙ ap (λ b. b || some_change reading h test k) passes)
    (cases_lt n (suc k))

-- the number of a change is one of those up to their count
pub within_count : (reading : Reading) (h : List Entry) (n : ℕ) (c : Change) → change reading h n ≡ Some c → (1 ≤ n) × (n ≤ change_count h)
within_count reading h n c is =
    let range = and_parts (nat_le 1 n) (nat_le n (change_count h)) (sym (change_there reading h n) ∙ ap is_some is) in
    (leb-true 1 n range.0, leb-true n (change_count h) range.1)

-- one passes, where a change does
pub some_passes : (reading : Reading) (h : List Entry) (test : Change → Bool) (n : ℕ) (c : Change) → change reading h n ≡ Some c → test c ≡ true → some_change reading h test (change_count h) ≡ true
some_passes reading h test n c is passes = let range = within_count reading h n c is in passes_up_to reading h test (change_count h) n c range.0 range.1 is passes

pub passing : (o : Option Change) (test : Change → Bool) → option_map_or test o false ≡ true → (c : Change) × (o ≡ Some c) × (test c ≡ true)
passing None test e = absurd (cc)
passing (Some c) test e = (c, refl, e)

-- the change that passes, where one does
pub one_passing : (reading : Reading) (h : List Entry) (test : Change → Bool) (k : ℕ) → some_change reading h test k ≡ true → (n : ℕ) × (c : Change) × (change reading h n ≡ Some c) × (test c ≡ true)
one_passing reading h test zero e = absurd (cc)
one_passing reading h test (suc k) e = ⊎_elim
    (λ (t : option_map_or test (change reading h (suc k)) false ≡ true). let p = passing (change reading h (suc k)) test t in (suc k, p.0, p.1, p.2))
    (λ (f : option_map_or test (change reading h (suc k)) false ≡ false). one_passing reading h test k (sym (ap (λ b. b || some_change reading h test k) f) ∙ e))
    (cases_Bool (option_map_or test (change reading h (suc k)) false))

-- ==== how many changes a history has at most, and the numbers of changes

count_made : (reading : Reading) (h : List Entry) (caller : ℕ) (command : Command) (a : Answer) → IsAnswerBy reading h caller command (Done a) → change_count h ≤ most_changes →
    change_counted (Some command) (change_count h) ≤ most_changes
count_made reading h caller (CreateChange new) a answer before =
    let all = (all_pass ((is_account h caller, UnknownCaller) ∷ checks (facts_of reading h) caller (CreateChange new)) (done_passes reading h caller (CreateChange new) a answer)).1 in
    let below : change_count h < most_changes = ltb-true (change_count h) most_changes all.1.1.1.1.1.0 in
    omega arith
count_made reading h caller _ a answer before = before

count_made_by : (reading : Reading) (h : List Entry) (caller : ℕ) (command : Command) (reply : Reply) → IsDoneBy reading h caller command reply → change_count h ≤ most_changes →
    change_counted (if_done reply command) (change_count h) ≤ most_changes
count_made_by reading h caller command (Done a) answer before = count_made reading h caller command a answer before
count_made_by reading h caller command _ answer before = before

-- a history has at most so many changes
pub changes_bound : (reading : Reading) (h : List Entry) → Reads reading h → IsHistory h → change_count h ≤ most_changes
changes_bound reading [] reads history = omega arith
changes_bound reading (e ∷ h) reads history = count_made_by reading h e.identity.caller e.command e.reply (done_of e h history reading reads.1) (changes_bound reading h reads.1 history.3)

-- the number of a change that is there
pub change_bound : (reading : Reading) (h : List Entry) (n : ℕ) (c : Change) → Reads reading h → IsHistory h → change reading h n ≡ Some c → (1 ≤ n) × (n ≤ most_changes)
change_bound reading h n c reads history there =
    let most = changes_bound reading h reads history in
    let p = and_parts (nat_le 1 n) (nat_le n (change_count h)) (sym (change_there reading h n) ∙ ap is_some there) in
    let low : 1 ≤ n = leb-true 1 n p.0 in
    let high : n ≤ change_count h = leb-true n (change_count h) p.1 in
    (low, omega arith)
