-- Which changes joined a branch, and at which places.
use Rattle.std.proofs.Common.{◌≡◌, ℕ, List, ◌∷◌, Option, Some, None, refl, subst, inl, inr, ◌⊎◌, ◌+◌, ◌==◌, [], ◌++◌, length, Bool, true, false, cond, ◌&&◌, sym, ap, ◌∙◌, ⊎_elim, arith, eqb-true, append-nil, is_some, option_map, bytes_eq, ◌<◌, ◌≤◌, leb-true, All, Contains, nat_le, ◌||◌}
use Rattle.std.proofs.lemmas.Bool.{not-true, and_right, and_parts, and_from}
use Rattle.std.proofs.lemmas.Map.{Keys.IsDistinct-cons, Steps.length-le_from_distinct_below}
use Rattle.std.specs.{List.AllByRecursion, List.IsDistinct, List.list_any, Option.option_or, Option.option_map_or}
use Rattle.review_table.proofs.Plain.{or_none}
use Rattle.review_words.specs.History.{Entry, is_account, if_done, accepted, bases, is_base, with_base}
use Rattle.review_words.specs.declared.command.Command.TheVariants.{Submit, RecordBase, CreateChange, OnChange}
use Rattle.review_words.specs.declared.shown.State.{State, TheVariants.New, TheVariants.Merged}
use Rattle.review_chain.proofs.Walking.{chain_ready, chain_distinct}
use Rattle.review_core_rules.specs.Change.{Change, after, begun, is_open, state_by, commit, of_number, parent, patches_by}
use Rattle.review_machine_rows.proofs.Common.{All-from_recursion, Answer, ChangeCommand, Command, Done, IsFirstUnsatisfied, IsReady, Link, PatchRow, Refused, Reply, Submitted, UnknownCaller, list_any-append, nat_tests}
use Rattle.review_machine_rows.proofs.Readings.{not_refused, IsDoneBy, done_of}
use Rattle.review_machine_rows.specs.Answer.{IsAnswerBy, IsOutcome, checks, of_change, refused_by, submit_checks, IsHistory, request_checks}
use Rattle.review_machine_rows.specs.Changes.{Reading, change, Reads, change_by, change_count, is_for, is_made_for, joined, joined_by, joined_in, joining, joining_at, place_in, setting_of, submitted}
use Rattle.review_machine_rows.specs.Desks.{facts_of}
use Rattle.review_machine_rows.specs.Submits.{IsOf, IsSubmitAnswer, checked_reply, judged_after, branch_after, is_merged}
use Rattle.review_machine_laws.proofs.Changes.{made_for, Passes, all_pass, done_passes, checks_pass, change_there, is_up_to}
use Rattle.review_machine_laws.proofs.Linked.{for_branch, is_for_branch, linked}
use Rattle.review_machine_laws.proofs.Places.{at_place, place_behind, all_placed, any_of, contained_get, contains_placed, distinct_append, each_weaker, get_placed}
use Rattle.review_machine_laws.specs.{Accepted.IsAccepted, Joined.HasJoined, Places.place_of}
use Rattle.review_words.specs.declared.command.ChangeCommand.TheVariants as on

-- ==== what an accepted submit joins

none_found : (chain : List ℕ) (found : Option (ℕ × List ℕ)) (a : Answer) → Done a ≡ checked_reply chain found → (found ≡ None) × (a ≡ Submitted chain)
none_found chain None a is = let same : a ≡ Submitted chain = cc in (refl, same)
none_found chain (Some found) a is = absurd (cc)

accepted_of : (reading : Reading) (h : List Entry) (caller m : ℕ) (o : Option Change) (a : Answer) → change reading h m ≡ o → AllByRecursion Passes (of_change (submit_checks (facts_of reading h) caller) o) →
    IsOf (λ c. IsSubmitAnswer reading h m c (Done a)) o → IsAccepted reading h m a
accepted_of reading h caller m None a there pass told = absurd told
accepted_of reading h caller m (Some c) a there pass (inl bad) = let e : Done a ≡ Refused bad.refusal = bad.reply_is in absurd (cc)
accepted_of reading h caller m (Some c) a there pass (inr good) =
    let none = none_found good.chain good.found a good.reply_is in
    record {
      of = c;
      there = there;
      was_open = pass.1.0;
      was_ready = not-true c.wip pass.1.1.0;
      chain = good.chain;
      is_chain = good.is_chain;
      satisfied = subst (IsFirstUnsatisfied (judged_after reading h) good.chain) none.0 good.checked;
      told = none.1;
    }

pub submit_accepted : (reading : Reading) (h : List Entry) (caller m : ℕ) (a : Answer) → IsAnswerBy reading h caller (Submit m) (Done a) → IsAccepted reading h m a
submit_accepted reading h caller m a answer =
    let pass = (all_pass ((is_account h caller, UnknownCaller) ∷ checks (facts_of reading h) caller (Submit m)) (done_passes reading h caller (Submit m) a answer)).1 in
    accepted_of reading h caller m (change reading h m) a refl pass (not_refused {A = IsOutcome reading h caller (Submit m) (Done a)} (refused_by reading h caller (Submit m)) a answer)

-- ==== the place of a change in the list of those that joined its branch is its place

-- a change that isn't merged has none
pub not_placed : (project branch : List ℕ) (c : Change) → is_merged c.state ≡ false → place_of project branch (Some c) ≡ None
not_placed project branch c free = ap (λ b. cond b (Some c.place) None) (and_right (is_for project branch c) (is_merged c.state) free)

-- ---- requests on a change keep its place

open_unmerged : (s : State) → is_open s ≡ true → is_merged s ≡ false
open_unmerged New e = refl
open_unmerged _ e = absurd (cc)

pub merged_stays : (reading : Reading) (h : List Entry) (caller : ℕ) (command : ChangeCommand) (c : Change) → AllByRecursion Passes (request_checks (facts_of reading h) caller command c) →
    is_merged (state_by command c.state) ≡ is_merged c.state
merged_stays reading h caller on.Abandon c pass = sym (open_unmerged c.state pass.1.0)
merged_stays reading h caller on.Restore c pass = sym (not-true (is_merged c.state) pass.1.0)
merged_stays reading h caller _ c pass = refl

named_place : (project branch : List ℕ) (b : Bool) (o : Option Change) (f : Change → Change) → (b ≡ true → (x : Change) → o ≡ Some x → place_of project branch (Some (f x)) ≡ place_of project branch (Some x)) →
    place_of project branch (cond b (option_map f o) o) ≡ place_of project branch o
named_place project branch true None f keeps = refl
named_place project branch true (Some x) f keeps = keeps refl x refl
named_place project branch false o f keeps = refl

made_place : (project branch : List ℕ) (b : Bool) (o : Option Change) (new : Change) → is_merged new.state ≡ false → (b ≡ true → o ≡ None) → place_of project branch (cond b (Some new) o) ≡ place_of project branch o
made_place project branch true o new free none = not_placed project branch new free ∙ ap (place_of project branch) (sym (none refl))
made_place project branch false o new free none = refl

none_from : {X : Type 0} (o : Option X) → is_some o ≡ false → o ≡ None
none_from None e = refl
none_from (Some x) e = absurd (cc)

pub past : (c : ℕ) → is_up_to c (c + 1) ≡ false
past c = grind (arith, nat_tests)

-- the next number is that of no change
pub none_next : (reading : Reading) (h : List Entry) (n : ℕ) → (change_count h + 1 == n) ≡ true → change reading h n ≡ None
none_next reading h n next =
    none_from (change reading h n) (change_there reading h n ∙ (ap (is_up_to (change_count h)) (sym (eqb-true (change_count h + 1) n next)) ∙ past (change_count h)))

place_stays : (reading : Reading) (h : List Entry) (caller : ℕ) (command : Command) (a : Answer) (project branch : List ℕ) (n : ℕ) → IsAnswerBy reading h caller command (Done a) →
    place_of project branch (change_by reading h caller (Some command) n (change reading h n)) ≡ place_of project branch (change reading h n)
place_stays reading h caller (CreateChange new) a project branch n answer =
    made_place project branch (change_count h + 1 == n) (change reading h n) (begun new caller (length h + 1)) refl (none_next reading h n)
place_stays reading h caller (OnChange m command) a project branch n answer =
    named_place project branch (m == n) (change reading h n) (λ x. after (setting_of reading h x.project) command caller (length h + 1) x)
    (λ same x there.
    let pass = checks_pass reading h caller (request_checks (facts_of reading h) caller command) (change reading h m) x (ap (change reading h) (eqb-true m n same) ∙ there) (done_passes reading h caller (OnChange m command) a answer) in
    ap (λ b. cond (is_for project branch x && b) (Some x.place) None) (merged_stays reading h caller command x pass))
place_stays reading h caller _ a project branch n answer = refl

-- ---- a submit gives the next places

-- a change for the branch that isn't merged
pub record IsUnmerged (reading : Reading) (h : List Entry) (project branch : List ℕ) (n : ℕ) : Type 0 where
  pub of : Change
  pub there : change reading h n ≡ Some of
  pub is_for_it : is_for project branch of ≡ true
  pub unmerged : is_merged of.state ≡ false

linked_unmerged : (reading : Reading) (h : List Entry) (project branch : List ℕ) (n : ℕ) → IsReady (branch_after reading h project branch) n → IsUnmerged reading h project branch n
linked_unmerged reading h project branch n r =
    let l = linked project branch (change reading h n) r.link r.there in
    record { of = l.of; there = l.there; is_for_it = is_for_branch project branch l.of l.for_project l.for_branch; unmerged = ap is_merged (ap (λ (x : Link). x.state) l.link_is ∙ r.is_open) }

-- each change of an accepted chain is for its branch, and wasn't merged
pub unmerged : (reading : Reading) (h : List Entry) (m : ℕ) (a : Answer) (s : IsAccepted reading h m a) (n k : ℕ) → place_in s.chain n ≡ Some k → IsUnmerged reading h s.of.project s.of.branch n
unmerged reading h m a s n k is = ⊎_elim
    (λ (last : n ≡ m). record {
      of = s.of;
      there = ap (change reading h) last ∙ s.there;
      is_for_it = is_for_branch s.of.project s.of.branch s.of refl refl;
      unmerged = open_unmerged s.of.state s.was_open;
    })
    (linked_unmerged reading h s.of.project s.of.branch n)
    (at_place (λ d. (d ≡ m) ⊎ IsReady (branch_after reading h s.of.project s.of.branch) d) s.chain n k (chain_ready (branch_after reading h s.of.project s.of.branch) s.chain m s.is_chain) is)

-- two changes for one branch are for the same branches
same_branches : (project branch : List ℕ) (c x : Change) → is_for c.project c.branch x ≡ true → is_for project branch c ≡ is_for project branch x
same_branches project branch c x e =
    let to = for_branch c.project c.branch x e in
    λ i. bytes_eq (sym to.0 i) project && bytes_eq (sym to.1 i) branch

placed_at : (h : List Entry) (project branch : List ℕ) (x : Change) (chain : List ℕ) (n k : ℕ) (b : Bool) → is_for project branch x ≡ b → place_in chain n ≡ Some k →
    option_map (λ j. length (joined h project branch) + j) (place_in (cond b chain []) n) ≡ cond (b && true) (Some (length (joined h x.project x.branch) + k)) None
placed_at h project branch x chain n k true same is =
    let to = for_branch project branch x same in
    ap (option_map (λ j. length (joined h project branch) + j)) is ∙ (λ i. Some (length (joined h (sym to.0 i) (sym to.1 i)) + k))
placed_at h project branch x chain n k false other is = refl

submit_places : (reading : Reading) (h : List Entry) (m : ℕ) (a : Answer) (s : IsAccepted reading h m a) (project branch : List ℕ) (n : ℕ) →
    place_in (joined h project branch) n ≡ place_of project branch (change reading h n) →
    place_in (joined h project branch ++ cond (is_made_for h project branch m) s.chain []) n ≡ place_of project branch (joining h s.chain n (change reading h n))
submit_places reading h m a s project branch n before = by (place_in s.chain n) refl
  where
    none_either : (b : Bool) → place_in s.chain n ≡ None → place_in (cond b s.chain []) n ≡ None
    none_either true none = none
    none_either false none = refl

    behind : place_in (joined h project branch ++ cond (is_made_for h project branch m) s.chain []) n
        ≡ option_or (place_in (joined h project branch) n) (option_map (λ j. length (joined h project branch) + j) (place_in (cond (is_made_for h project branch m) s.chain []) n))
    behind = place_behind (joined h project branch) (cond (is_made_for h project branch m) s.chain []) n

    by : (o : Option ℕ) → place_in s.chain n ≡ o →
        place_in (joined h project branch ++ cond (is_made_for h project branch m) s.chain []) n ≡ place_of project branch (joining h s.chain n (change reading h n))
    by None none =
        behind
        ∙ (ap (λ o. option_or (place_in (joined h project branch) n) (option_map (λ j. length (joined h project branch) + j) o)) (none_either (is_made_for h project branch m) none)
        ∙ (or_none (place_in (joined h project branch) n) ∙ (before ∙ ap (λ o. place_of project branch (joining_at h o (change reading h n))) (sym none))))
    by (Some k) some =
        let u = unmerged reading h m a s n k some in
        let same = made_for reading h m s.of project branch s.there ∙ same_branches project branch s.of u.of u.is_for_it in
        behind
        ∙ (ap (λ o. option_or o (option_map (λ j. length (joined h project branch) + j) (place_in (cond (is_made_for h project branch m) s.chain []) n)))
        (before ∙ (ap (place_of project branch) u.there ∙ not_placed project branch u.of u.unmerged))
        ∙ (ap (λ b. option_map (λ j. length (joined h project branch) + j) (place_in (cond b s.chain []) n)) same
        ∙ (placed_at h project branch u.of s.chain n k (is_for project branch u.of) refl some
        ∙ ap (place_of project branch) (sym (ap (λ o. joining_at h o (change reading h n)) some ∙ ap (joining_at h (Some k)) u.there)))))

-- ---- one entry more

step : (reading : Reading) (h : List Entry) (caller : ℕ) (command : Command) (reply : Reply) (project branch : List ℕ) (n : ℕ) → IsDoneBy reading h caller command reply →
    place_in (joined h project branch) n ≡ place_of project branch (change reading h n) →
    place_in (joined h project branch ++ joined_by h (if_done reply command) reply project branch) n
    ≡ place_of project branch (joining h (submitted (if_done reply command) reply) n (change_by reading h caller (if_done reply command) n (change reading h n)))
step reading h caller (Submit m) (Done a) project branch n answer before =
    let s = submit_accepted reading h caller m a answer in
    let chain : joined_in (Done a) ≡ s.chain = ap (λ x. joined_in (Done x)) s.told in
    ap (λ l. place_in (joined h project branch ++ cond (is_made_for h project branch m) l []) n) chain
    ∙ (submit_places reading h m a s project branch n before ∙ ap (λ l. place_of project branch (joining h l n (change reading h n))) (sym chain))
step reading h caller (CreateChange new) (Done a) project branch n answer before =
    ap (λ l. place_in l n) (append-nil (joined h project branch)) ∙ (before ∙ sym (place_stays reading h caller (CreateChange new) a project branch n answer))
step reading h caller (OnChange m command) (Done a) project branch n answer before =
    ap (λ l. place_in l n) (append-nil (joined h project branch)) ∙ (before ∙ sym (place_stays reading h caller (OnChange m command) a project branch n answer))
step reading h caller _ (Done a) project branch n answer before = ap (λ l. place_in l n) (append-nil (joined h project branch)) ∙ before
step reading h caller command _ project branch n answer before = ap (λ l. place_in l n) (append-nil (joined h project branch)) ∙ before

-- the place of a change among those that joined a branch is the place that it has
pub placed : (reading : Reading) (h : List Entry) (project branch : List ℕ) (n : ℕ) → IsHistory h → Reads reading h → place_in (joined h project branch) n ≡ place_of project branch (change reading h n)
placed reading [] project branch n history reads = refl
placed reading (e ∷ h) project branch n history reads =
    step reading h e.identity.caller e.command e.reply project branch n (done_of e h history reading reads.1) (placed reading h project branch n history.3 reads.1)

-- ==== which changes joined a branch: those for it that are merged, each once

pub state_merged : (s : State) → is_merged s ≡ true → s ≡ Merged
state_merged Merged e = refl
state_merged _ e = absurd (cc)

-- ---- what an entry joins

-- A branch gains changes: the chain of an accepted submit of a change for it.
pub record Gains (reading : Reading) (h : List Entry) (o : Option Command) (project branch : List ℕ) (changes : List ℕ) : Type 0 where
  pub submit : ℕ
  pub asked : o ≡ Some (Submit submit)
  pub answer : Answer
  pub accepted : IsAccepted reading h submit answer
  pub joins : changes ≡ accepted.chain
  pub for_project : accepted.of.project ≡ project
  pub for_branch : accepted.of.branch ≡ branch

-- a command joins no changes to a branch, or the chain of an accepted submit
pub gains : (reading : Reading) (h : List Entry) (caller : ℕ) (command : Command) (reply : Reply) (project branch : List ℕ) → IsDoneBy reading h caller command reply →
    (joined_by h (if_done reply command) reply project branch ≡ []) ⊎ Gains reading h (if_done reply command) project branch (joined_by h (if_done reply command) reply project branch)
gains reading h caller (Submit m) (Done a) project branch answer = by (is_made_for h project branch m) refl
  where
    by : (b : Bool) → is_made_for h project branch m ≡ b → (cond b (joined_in (Done a)) [] ≡ []) ⊎ Gains reading h (Some (Submit m)) project branch (cond b (joined_in (Done a)) [])
    by false other = inl refl
    by true same =
        let s = submit_accepted reading h caller m a answer in
        let to = for_branch project branch s.of (sym (made_for reading h m s.of project branch s.there) ∙ same) in
        inr (record { submit = m; asked = refl; answer = a; accepted = s; joins = ap (λ x. joined_in (Done x)) s.told; for_project = to.0; for_branch = to.1 })
gains reading h caller _ (Done a) project branch answer = inl refl
gains reading h caller command _ project branch answer = inl refl

-- ---- each once

-- the changes of an accepted chain had no place in its branch
newly : (reading : Reading) (h : List Entry) (m : ℕ) (a : Answer) (s : IsAccepted reading h m a) → IsHistory h → Reads reading h → AllByRecursion (λ n. place_in (joined h s.of.project s.of.branch) n ≡ None) s.chain
newly reading h m a s history reads =
    all_placed (λ n. place_in (joined h s.of.project s.of.branch) n ≡ None) s.chain
    (λ n k is.
    let u = unmerged reading h m a s n k is in
    placed reading h s.of.project s.of.branch n history reads ∙ (ap (place_of s.of.project s.of.branch) u.there ∙ not_placed s.of.project s.of.branch u.of u.unmerged))

more_distinct : (reading : Reading) (h : List Entry) (o : Option Command) (project branch : List ℕ) (changes : List ℕ) → IsHistory h → Reads reading h → IsDistinct ◌==◌ (joined h project branch) →
    (changes ≡ []) ⊎ Gains reading h o project branch changes → IsDistinct ◌==◌ (joined h project branch ++ changes)
more_distinct reading h o project branch changes history reads before (inl none) =
    subst (λ l. IsDistinct ◌==◌ (joined h project branch ++ l)) (sym none) (subst (λ l. IsDistinct ◌==◌ l) (sym (append-nil (joined h project branch))) before)
more_distinct reading h o project branch changes history reads before (inr g) =
    let s = g.accepted in
    let here : joined h s.of.project s.of.branch ≡ joined h project branch = λ i. joined h (g.for_project i) (g.for_branch i) in
    let apart = subst (λ l. AllByRecursion (λ n. place_in l n ≡ None) s.chain) here (newly reading h g.submit g.answer s history reads) in
    subst (λ l. IsDistinct ◌==◌ (joined h project branch ++ l)) (sym g.joins)
    (distinct_append (joined h project branch) s.chain before (chain_distinct (branch_after reading h s.of.project s.of.branch) s.chain g.submit s.is_chain) apart)

none_distinct : IsDistinct ◌==◌ []
unfolding IsDistinct
none_distinct = tt

-- a change joins its branch at most once
pub joined_distinct : (reading : Reading) (h : List Entry) (project branch : List ℕ) → IsHistory h → Reads reading h → IsDistinct ◌==◌ (joined h project branch)
joined_distinct reading [] project branch history reads = none_distinct
joined_distinct reading (e ∷ h) project branch history reads =
    more_distinct reading h (accepted e) project branch (joined_by h (accepted e) e.reply project branch) history.3 reads.1 (joined_distinct reading h project branch history.3 reads.1)
    (gains reading h e.identity.caller e.command e.reply project branch (done_of e h history reading reads.1))

-- ---- those that are merged

-- who has a place in a branch has joined it, and has that place in its header
pub record IsPlaced (reading : Reading) (h : List Entry) (project branch : List ℕ) (n place : ℕ) : Type 0 where
  pub has_joined : HasJoined reading h project branch n
  pub place_is : has_joined.of.place ≡ place

is_placed : (reading : Reading) (h : List Entry) (project branch : List ℕ) (n place : ℕ) (o : Option Change) → change reading h n ≡ o → place_of project branch o ≡ Some place → IsPlaced reading h project branch n place
is_placed reading h project branch n place None there is = absurd (cc)
is_placed reading h project branch n place (Some c) there is = by (is_for project branch c && is_merged c.state) refl is
  where
    by : (b : Bool) → (is_for project branch c && is_merged c.state) ≡ b → cond b (Some c.place) None ≡ Some place → IsPlaced reading h project branch n place
    by false other e = absurd (cc)
    by true both e =
        let p = and_parts (is_for project branch c) (is_merged c.state) both in
        let to = for_branch project branch c p.0 in
        let at : c.place ≡ place = cc in
        record { has_joined = record { of = c; there = there; for_project = to.0; for_branch = to.1; merged = state_merged c.state p.1 }; place_is = at }

pub joined_placed : (reading : Reading) (h : List Entry) (project branch : List ℕ) (n place : ℕ) → IsHistory h → Reads reading h → place_in (joined h project branch) n ≡ Some place → IsPlaced reading h project branch n place
joined_placed reading h project branch n place history reads is = is_placed reading h project branch n place (change reading h n) refl (sym (placed reading h project branch n history reads) ∙ is)

-- who has joined a branch has the place there that its header has
pub has_place : (reading : Reading) (h : List Entry) (project branch : List ℕ) (n : ℕ) → IsHistory h → Reads reading h → (j : HasJoined reading h project branch n) → place_in (joined h project branch) n ≡ Some j.of.place
has_place reading h project branch n history reads j =
    placed reading h project branch n history reads
    ∙ (ap (place_of project branch) j.there
    ∙ ap (λ b. cond b (Some j.of.place) None) (and_from (is_for project branch j.of) (is_merged j.of.state) (is_for_branch project branch j.of j.for_project j.for_branch) (ap is_merged j.merged)))

-- those that joined a branch are for it, and merged
pub joined_merged : (reading : Reading) (h : List Entry) (project branch : List ℕ) → IsHistory h → Reads reading h → All (HasJoined reading h project branch) (joined h project branch)
joined_merged reading h project branch history reads =
    All-from_recursion (HasJoined reading h project branch) (joined h project branch)
    (all_placed (HasJoined reading h project branch) (joined h project branch) (λ n place is. (joined_placed reading h project branch n place history reads is).has_joined))

-- and each that is for it and merged is among them
pub merged_joined : (reading : Reading) (h : List Entry) (project branch : List ℕ) (n : ℕ) → IsHistory h → Reads reading h → HasJoined reading h project branch n → Contains (joined h project branch) n
merged_joined reading h project branch n history reads j = contains_placed (joined h project branch) n j.of.place (has_place reading h project branch n history reads j)

pub contained_joined : (reading : Reading) (h : List Entry) (project branch : List ℕ) (n : ℕ) → IsHistory h → Reads reading h → Contains (joined h project branch) n → HasJoined reading h project branch n
contained_joined reading h project branch n history reads in' =
    let at = contained_get (joined h project branch) n in' in
    (joined_placed reading h project branch n (at.0 + 1) history reads (get_placed (joined h project branch) at.0 n (joined_distinct reading h project branch history reads) at.1)).has_joined

pub same_change : (reading : Reading) (h : List Entry) (n : ℕ) (c d : Change) → change reading h n ≡ Some c → change reading h n ≡ Some d → c ≡ d
same_change reading h n c d one two = let e : Some c ≡ Some d = sym one ∙ two in cc

-- a change joins only one branch
pub joined_one_branch : (reading : Reading) (h : List Entry) (project branch other_project other_branch : List ℕ) (n : ℕ) → IsHistory h → Reads reading h →
    Contains (joined h project branch) n → Contains (joined h other_project other_branch) n → (project ≡ other_project) × (branch ≡ other_branch)
joined_one_branch reading h project branch other_project other_branch n history reads here there =
    let a = contained_joined reading h project branch n history reads here in
    let b = contained_joined reading h other_project other_branch n history reads there in
    let same = same_change reading h n a.of b.of a.there b.there in
    (sym a.for_project ∙ (ap (λ (c : Change). c.project) same ∙ b.for_project), sym a.for_branch ∙ (ap (λ (c : Change). c.branch) same ∙ b.for_branch))

-- ---- how many

up_to : (count n : ℕ) → is_up_to count n ≡ true → (1 ≤ n) × (n ≤ count)
up_to count n is = let p = and_parts (nat_le 1 n) (nat_le n count) is in (leb-true 1 n p.0, leb-true n count p.1)

-- numbers without repetitions from 1 up to a count are at most so many
pub few : (xs : List ℕ) (count : ℕ) → IsDistinct ◌==◌ xs → AllByRecursion (λ n. is_up_to count n ≡ true) xs → length xs ≤ count
few xs count distinct each =
    let most : length (0 ∷ xs) ≤ count + 1 = length-le_from_distinct_below (0 ∷ xs) (count + 1)
    (IsDistinct-cons ◌==◌ 0 xs (each_weaker (λ n. is_up_to count n ≡ true) (λ n. (0 == n) ≡ false) (λ n up. not_zero count n up) xs each) distinct)
    (λ q found. any_of (λ n. n < count + 1) (0 ∷ xs) q (omega arith, each_weaker (λ n. is_up_to count n ≡ true) (λ n. n < count + 1) (λ n up. let e : n ≤ count = (up_to count n up).1 in omega arith) xs each) found) in
    omega arith
  where
    not_zero : (most n : ℕ) → is_up_to most n ≡ true → (0 == n) ≡ false
    not_zero most n up = grind (arith, nat_tests)

-- no more changes join a branch than there are
pub joined_few : (reading : Reading) (h : List Entry) (project branch : List ℕ) → IsHistory h → Reads reading h → length (joined h project branch) ≤ change_count h
joined_few reading h project branch history reads =
    few (joined h project branch) (change_count h) (joined_distinct reading h project branch history reads)
    (all_placed (λ n. is_up_to (change_count h) n ≡ true) (joined h project branch)
    (λ n place is. sym (change_there reading h n) ∙ ap is_some (joined_placed reading h project branch n place history reads is).has_joined.there))

-- ==== what an entry keeps: the bases of branches, and the patch sets of merged changes

-- ---- bases

one_more_base : (b : Bool) (x commit : List ℕ) (xs : List (List ℕ)) → list_any (λ base. bytes_eq base x) xs ≡ true → list_any (λ base. bytes_eq base x) (cond b (xs ++ commit ∷ []) xs) ≡ true
one_more_base true x commit xs is = list_any-append (λ base. bytes_eq base x) xs (commit ∷ []) ∙ ap (λ b. b || list_any (λ base. bytes_eq base x) (commit ∷ [])) is
one_more_base false x commit xs is = is

base_stays : (o : Option Command) (project branch x : List ℕ) (xs : List (List ℕ)) → list_any (λ base. bytes_eq base x) xs ≡ true → list_any (λ base. bytes_eq base x) (with_base o project branch xs) ≡ true
base_stays (Some (RecordBase named on commit)) project branch x xs is = one_more_base (bytes_eq named project && bytes_eq on branch) x commit xs is
base_stays _ project branch x xs is = is

-- a base of a branch stays one
pub base_kept : (e : Entry) (h : List Entry) (project branch x : List ℕ) → is_base h project branch x ≡ true → is_base (e ∷ h) project branch x ≡ true
base_kept e h project branch x is = base_stays (accepted e) project branch x (bases h project branch) is

-- ---- patch sets

-- a change is still there, with the same patch sets
pub record KeepsPatches (c : Change) (o : Option Change) : Type 0 where
  pub of : Change
  pub there : o ≡ Some of
  pub patches : of.patches ≡ c.patches

-- where changes join, each keeps its patch sets
joining_patches : (h : List Entry) (place : Option ℕ) (o : Option Change) (c : Change) → KeepsPatches c o → KeepsPatches c (joining_at h place o)
joining_patches h None o c keeps = keeps
joining_patches h (Some place) None c keeps = let e : None ≡ Some keeps.of = keeps.there in absurd (cc)
joining_patches h (Some place) (Some x) c keeps = let same : x ≡ keeps.of = let e : Some x ≡ Some keeps.of = keeps.there in cc in record { of = _; there = refl; patches = ap (λ (y : Change). y.patches) same ∙ keeps.patches }

not_open : (s : State) → s ≡ Merged → is_open s ≡ true → ⊥
not_open New e o = absurd (cc)
not_open _ e o = absurd (let f : false ≡ true = o in cc)

-- no patch set is sent for a merged change
none_sent : (reading : Reading) (h : List Entry) (caller : ℕ) (command : ChangeCommand) (c : Change) → AllByRecursion Passes (request_checks (facts_of reading h) caller command c) → c.state ≡ Merged →
    patches_by command caller c.patches ≡ c.patches
none_sent reading h caller (on.Upload patch) c pass merged = absurd (not_open c.state merged pass.1.0)
none_sent reading h caller _ c pass merged = refl

named_patches : (b : Bool) (o : Option Change) (f : Change → Change) (c : Change) → o ≡ Some c → (b ≡ true → (f c).patches ≡ c.patches) → KeepsPatches c (cond b (option_map f o) o)
named_patches true o f c there keeps = record { of = f c; there = ap (option_map f) there; patches = keeps refl }
named_patches false o f c there keeps = record { of = c; there = there; patches = refl }

made_patches : (b : Bool) (o : Option Change) (new c : Change) → o ≡ Some c → (b ≡ true → o ≡ None) → KeepsPatches c (cond b (Some new) o)
made_patches true o new c there none = let e : Some c ≡ None = sym there ∙ none refl in absurd (cc)
made_patches false o new c there none = record { of = c; there = there; patches = refl }

done_patches : (reading : Reading) (h : List Entry) (caller n : ℕ) (c : Change) (command : Command) (a : Answer) → IsAnswerBy reading h caller command (Done a) → change reading h n ≡ Some c → c.state ≡ Merged →
    KeepsPatches c (change_by reading h caller (Some command) n (change reading h n))
done_patches reading h caller n c (CreateChange new) a answer there merged =
    made_patches (change_count h + 1 == n) (change reading h n) (begun new caller (length h + 1)) c there (none_next reading h n)
done_patches reading h caller n c (OnChange m command) a answer there merged =
    named_patches (m == n) (change reading h n) (λ x. after (setting_of reading h x.project) command caller (length h + 1) x) c there
    (λ same.
    let pass = checks_pass reading h caller (request_checks (facts_of reading h) caller command) (change reading h m) c (ap (change reading h) (eqb-true m n same) ∙ there) (done_passes reading h caller (OnChange m command) a answer) in
    none_sent reading h caller command c pass merged)
done_patches reading h caller n c _ a answer there merged = record { of = c; there = there; patches = refl }

step_patches : (reading : Reading) (h : List Entry) (caller n : ℕ) (c : Change) (command : Command) (reply : Reply) → IsDoneBy reading h caller command reply → change reading h n ≡ Some c → c.state ≡ Merged →
    KeepsPatches c (change_by reading h caller (if_done reply command) n (change reading h n))
step_patches reading h caller n c command (Done a) answer there merged = done_patches reading h caller n c command a answer there merged
step_patches reading h caller n c command _ answer there merged = record { of = c; there = there; patches = refl }

-- an entry keeps the patch sets of a merged change
pub merged_keeps : (reading : Reading) (e : Entry) (h : List Entry) (n : ℕ) (c : Change) → IsHistory (e ∷ h) → Reads reading h → change reading h n ≡ Some c → c.state ≡ Merged → KeepsPatches c (change reading (e ∷ h) n)
merged_keeps reading e h n c history reads there merged =
    joining_patches h (place_in (submitted (accepted e) e.reply) n) (change_by reading h e.identity.caller (accepted e) n (change reading h n)) c
    (step_patches reading h e.identity.caller n c e.command e.reply (done_of e h history reading reads) there merged)

-- a submit keeps those of every change
pub submit_keeps : (reading : Reading) (e : Entry) (h : List Entry) (m n : ℕ) (c : Change) → accepted e ≡ Some (Submit m) → change reading h n ≡ Some c → KeepsPatches c (change reading (e ∷ h) n)
submit_keeps reading e h m n c asked there =
    joining_patches h (place_in (submitted (accepted e) e.reply) n) (change_by reading h e.identity.caller (accepted e) n (change reading h n)) c
    (record { of = c; there = ap (λ o. change_by reading h e.identity.caller o n (change reading h n)) asked ∙ there; patches = refl })

-- what has the same patch sets has the same current commit, and the same parent
pub commit_kept : (b c : Change) → b.patches ≡ c.patches → commit b ≡ commit c
commit_kept b c same = ap (λ (ps : List PatchRow). option_map_or (λ (p : PatchRow). p.commit) (of_number ps (length ps)) []) same

pub parent_kept : (b c : Change) → b.patches ≡ c.patches → parent b ≡ parent c
parent_kept b c same = ap (λ (ps : List PatchRow). option_map_or (λ (p : PatchRow). p.parent) (of_number ps (length ps)) []) same
