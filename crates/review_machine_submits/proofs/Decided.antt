-- A submit: the members of its chain, what it makes of the rows, and how it is decided.
use Rattle.std.proofs.Common.{◌≡◌, ◌⊎◌, ℕ, List, [], ◌∷◌, Option, Some, None, IsSome, Bool, true, false, cond, ◌&&◌, refl, sym, ap, ◌∙◌, subst, ⊎_elim, map, All, bytes_eq, ◌==◌, arith, nat_cmp, find, ◌+◌, length, eqb-true, option_map, inl, inr, is_some, not, option_to_list, MatchOption, if◌then◌else◌, ◌<◌, ◌≤◌, ◌^◌}
use Rattle.std.specs.List.{AllByRecursion, IsDistinct}
use Rattle.review_table.specs.Rows.{NamesOnce, after_row_edit}
use Rattle.review_words.specs.History.{Entry, entry_of, is_account}
use Rattle.review_words.specs.declared.reply.NotTaken.{NotTaken as Cause}
use Rattle.review_words.specs.declared.reply.NotTaken.TheVariants.{Memory, Damaged, Pattern}
use Rattle.review_words.specs.declared.reply.Refusal.TheVariants.{NoChange, RequirementUnsatisfied}
use Rattle.review_chain.proofs.Parting.{bad_kept, whole_sound, Says, wanted_says, chain_kept}
use Rattle.review_chain.proofs.Walking.{chain_ready, one_end, wanted_meets}
use Rattle.review_chain.specs.Branches.{Branch, IsWhole}
use Rattle.review_chain.specs.{Parts.IsPart, Parts.IsWanted, Parts.Want as ChainWant, Places.places_from}
use Rattle.review_chain.specs.{Steps.IsFault, Steps.Wants, Steps.wanted, Walks.IsChain, Walks.IsReady}
use Rattle.review_chain.specs.declared.walks.ChainFault.TheVariants.{Outdated, Abandoned, Wip, TooLong, Broken}
use Rattle.review_core_rules.specs.Change.{Change, joined_at, Setting, is_open}
use Rattle.review_core_rules.specs.Facts.{AreStanding, IsFirstUnsatisfied, unsatisfied_in}
use Rattle.review_core_rules.specs.Parts.{Part, PartRow, part_row}
use Rattle.review_machine_rows.proofs.Asked.{all_made, each_known, file_asked, found_of}
use Rattle.review_machine_rows.proofs.Common.{All-head, All-tail, ChainFault, Done, File, Link, Refusal, Refused, Reply, ShownRequirement, Submit, Submitted, and_parts, bytes_eq-Decides, file_trees}
use Rattle.review_machine_rows.specs.Answer.{IsAnswerBy, IsHistory, first_refusal, of_change, refused_by, submit_checks, most_requests}
use Rattle.review_machine_rows.specs.Changes.{Reading, change, joined, joining, joining_at, place_in, Reads, file_of, setting_of, change_count}
use Rattle.review_machine_rows.specs.Decisions.{NamesChangesOnce, NamesEachOnce, NamesRowsOnce, IsUndecided}
use Rattle.review_machine_rows.specs.Desks.{facts_by}
use Rattle.review_machine_rows.specs.Known.{part_of, Agrees, Found, IsKnown, known, change_in, IsLastJoined, number_of}
use Rattle.review_machine_rows.specs.Links.{is_for, link_for, link_of, links_in}
use Rattle.review_machine_rows.specs.Rows.{member_cmp, Key, PartKey, APart, Count, Projects, edited, after, part_change}
use Rattle.review_machine_rows.specs.Steps.{OfCommand, caller_in, chain_wants, last_wants, look_up, unknown, wanted_for, wants_by}
use Rattle.review_machine_rows.specs.Submits.{HasBadLink, refusal_of, branch_after, judged_after, IsOf, IsSubmitAnswer, checked_reply}
use Rattle.review_machine_rows.specs.View.{IsDecided, counted, fact, AreEnough, view}
use Rattle.review_machine_rows.specs.declared.rows.{ChangeEdit.ChangeEdit, Delta.Delta, Rows.Rows}
use Rattle.{review_core_standing.proofs.InThreads.other_way, review_machine_laws.proofs.Changes.changes_bound}
use Rattle.review_machine_laws.proofs.Checked.{lacks_project, same_trees, split_all, submit_asked, submit_file, submit_refused_told}
use Rattle.review_machine_laws.proofs.{Histories.OneEffective, SoundProjects.has_project, Told.change_told}
use Rattle.review_machine_accounts.proofs.Decided.{count_by, decided_by, outcome_answer, refused_decided, row_by}
use Rattle.review_machine_accounts.specs.Decisions.{EditsChanges, IsEmpty, no_edits}
use Rattle.review_machine_changes.proofs.{Made.request_is, Told.ChangesAreSound}
use Rattle.review_machine_changes.specs.Deltas.{setting_in, next_request}
use Rattle.review_machine_submits.proofs.Loaded.{GroupsSuffice, standing_told}
use Rattle.review_machine_submits.specs.Submits.{IsThere, change_at, AreJoinEdits, IsJoinEdit, HasUnsound, judged_in, JoinsChain, Makes, last_in}
use Rattle.review_machine_submits.specs.inner.Words.{IsUnchained, IsUnlinked, IsSubmitted}
use Rattle.review_file_rules.specs.declared.parts.Right.TheVariants as right
use Rattle.review_machine_rows.specs.declared.rows.Want.TheVariants as want

-- ==== the changes of a chain, as rows know them

-- rows know the change, and it is for the branch
pub record IsMember (rows : Rows) (project branch : List ℕ) (n : ℕ) : Type 0 where
  pub of : Change
  pub there : change_at rows n ≡ Some of
  pub project_is : of.project ≡ project
  pub branch_is : of.branch ≡ branch

linked_member : (rows : Rows) (project branch : List ℕ) (n : ℕ) (o : Option Change) (l : Link) → change_at rows n ≡ o → link_for project branch o ≡ Some l → IsMember rows project branch n
linked_member rows project branch n None l at is = absurd (let f : None ≡ Some l = is in cc)
linked_member rows project branch n (Some x) l at is = by (is_for project branch x) refl is
  where
    by : (b : Bool) → is_for project branch x ≡ b → cond b (link_of x) None ≡ Some l → IsMember rows project branch n
    by true for_it is =
        let p = and_parts (bytes_eq x.project project) (bytes_eq x.branch branch) for_it in
        record { of = x; there = at; project_is = (bytes_eq-Decides x.project project).0 p.0; branch_is = (bytes_eq-Decides x.branch branch).0 p.1 }
    by false other is = absurd (let f : None ≡ Some l = is in cc)

all_members : (rows : Rows) (c : Change) (n : ℕ) → change_at rows n ≡ Some c → (ds : List ℕ) → All (λ d. (d ≡ n) ⊎ IsReady (links_in rows c.project c.branch) d) ds → AllByRecursion (IsMember rows c.project c.branch) ds
all_members rows c n there [] all = tt
all_members rows c n there (d ∷ ds) all = (
  ⊎_elim
      (λ (same : d ≡ n). record { of = c; there = ap (change_at rows) same ∙ there; project_is = refl; branch_is = refl })
      (λ (ready : IsReady (links_in rows c.project c.branch) d). linked_member rows c.project c.branch d (change_at rows d) ready.link refl ready.there)
      (All-head (λ d. (d ≡ n) ⊎ IsReady (links_in rows c.project c.branch) d) d ds all),
  all_members rows c n there ds (All-tail (λ d. (d ≡ n) ⊎ IsReady (links_in rows c.project c.branch) d) d ds all),
)

-- the changes of a chain
pub members : (rows : Rows) (c : Change) (n : ℕ) (chain : List ℕ) → change_at rows n ≡ Some c → IsChain (links_in rows c.project c.branch) chain n → AllByRecursion (IsMember rows c.project c.branch) chain
members rows c n chain there is = all_members rows c n there chain (chain_ready (links_in rows c.project c.branch) chain n is)

-- rows know them all
pub are_there : (rows : Rows) (project branch : List ℕ) (ds : List ℕ) → AllByRecursion (IsMember rows project branch) ds → AllByRecursion (IsThere rows) ds
are_there rows project branch [] all = tt
are_there rows project branch (d ∷ ds) all = (subst IsSome (sym all.0.there) refl, are_there rows project branch ds all.1)

-- so do they where each has a place
pub there_placed : (rows : Rows) (js : List (ℕ × ℕ)) (ds : List ℕ) → map (λ j. j.0) js ≡ ds → AllByRecursion (IsThere rows) ds → AllByRecursion (λ j. IsThere rows j.0) js
there_placed rows js ds order all = at js (subst (AllByRecursion (IsThere rows)) (sym order) all)
  where
    at : (ks : List (ℕ × ℕ)) → AllByRecursion (IsThere rows) (map (λ j. j.0) ks) → AllByRecursion (λ j. IsThere rows j.0) ks
    at [] all = tt
    at (k ∷ ks) all = (all.0, at ks all.1)

-- ==== the edits of a chain name each change once

-- no edit of the others is for a change that isn't among them
none_named : (rows : Rows) (request d : ℕ) (js : List (ℕ × ℕ)) (es : List ChangeEdit) → AreJoinEdits rows request js es → AllByRecursion (λ y. (d == y) ≡ false) (map (λ j. j.0) js) → find (λ x. x.change == d) es ≡ None
none_named rows request d [] [] are others = refl
none_named rows request d [] (e ∷ es) are others = absurd are
none_named rows request d (j ∷ js) [] are others = absurd are
none_named rows request d (j ∷ js) (e ∷ es) are others =
    let other : (e.change == d) ≡ false = ap (λ n. n == d) are.0.named ∙ other_way d j.0 others.0 in
    ap (λ b. cond b (Some e) (find (λ x. x.change == d) es)) other ∙ none_named rows request d js es are.1 others.1

each_once : (rows : Rows) (request : ℕ) (js : List (ℕ × ℕ)) (es : List ChangeEdit) → AreJoinEdits rows request js es → IsDistinct ◌==◌ (map (λ j. j.0) js) → AllByRecursion NamesRowsOnce es → NamesChangesOnce es
unfolding IsDistinct
each_once rows request [] [] are distinct once = tt
each_once rows request [] (e ∷ es) are distinct once = absurd are
each_once rows request (j ∷ js) [] are distinct once = absurd are
each_once rows request (j ∷ js) (e ∷ es) are distinct once =
    (ap (λ n. find (λ x. x.change == n) es) are.0.named ∙ none_named rows request j.0 js es are.1 distinct.0, once.0, each_once rows request js es are.1 distinct.1 once.1)

-- so a delta of them names each key once
pub chain_once : (rows : Rows) (request : ℕ) (js : List (ℕ × ℕ)) (es : List ChangeEdit) (chain : List ℕ) (delta : Delta) → map (λ j. j.0) js ≡ chain → AreJoinEdits rows request js es → IsDistinct ◌==◌ chain →
    AllByRecursion NamesRowsOnce es → EditsChanges es delta → NamesEachOnce delta
chain_once rows request js es chain delta order are distinct once only = (
  subst (NamesOnce nat_cmp) (sym only.accounts) tt,
  subst (NamesOnce member_cmp) (sym only.members) tt,
  subst NamesChangesOnce (sym only.changes) (each_once rows request js es are (subst (IsDistinct ◌==◌) (sym order) distinct) once),
)

-- ==== faults of chains that are bad links

-- a fault that a submit is refused for is a bad link
pub bad_link : (b : Branch) (n : ℕ) (fault : ChainFault) (refusal : Refusal) (reply : Reply) → IsFault b n fault → refusal_of fault ≡ Some refusal → reply ≡ Refused refusal → HasBadLink b n reply
bad_link b n Outdated refusal reply is named told = record { walk = is.0; fault = Outdated; bad = is.1; refusal = refusal; named = named; reply_is = told }
bad_link b n Abandoned refusal reply is named told = record { walk = is.0; fault = Abandoned; bad = is.1; refusal = refusal; named = named; reply_is = told }
bad_link b n Wip refusal reply is named told = record { walk = is.0; fault = Wip; bad = is.1; refusal = refusal; named = named; reply_is = told }
bad_link b n TooLong refusal reply is named told = record { walk = is.0; fault = TooLong; bad = is.1; refusal = refusal; named = named; reply_is = told }
bad_link b n _ refusal reply is named told = absurd (cc)

-- ==== what a submit of a chain makes of the rows

-- a change that joins at the place so far behind another, where it joins
abbrev put_behind : ℕ → ℕ → Option ℕ → Option Change → Option Change
put_behind last request None before = before
put_behind last request (Some k) before = option_map (λ x. joined_at (last + k) request x) before

edit_here : (rows : Rows) (request n place : ℕ) (e : ChangeEdit) (part : Part) (o : Option Change) → IsJoinEdit rows request n place e → ((x : Change) → change_at rows n ≡ Some x → o ≡ Some x) →
    after_row_edit (option_map (option_map APart) (part_change e part)) (option_map APart (part_of o part)) ≡ option_map APart (part_of (option_map (λ x. joined_at place request x) o) part)
edit_here rows request n place e part o is known =
    let there = known is.of is.there in
    ap (λ p. after_row_edit (option_map (option_map APart) (part_change e part)) (option_map APart (part_of p part))) there
    ∙ (mapped (part_change e part) (part_row is.of part) ∙ (ap (option_map APart) (is.becomes part) ∙ ap (λ p. option_map APart (part_of (option_map (λ x. joined_at place request x) p) part)) (sym there)))
  where
    mapped : (c : Option (Option PartRow)) (was : Option PartRow) → after_row_edit (option_map (option_map APart) c) (option_map APart was) ≡ option_map APart (after_row_edit c was)
    mapped None was = refl
    mapped (Some new) was = refl

-- each row of a change is as the edits leave it
pub edits_turn : (rows : Rows) (request : ℕ) (chain : List ℕ) (last k : ℕ) (part : Part) (edits : List ChangeEdit) (o : Option Change) → AreJoinEdits rows request (places_from (last + 1) chain) edits →
    ((x : Change) → change_at rows k ≡ Some x → o ≡ Some x) →
    after_row_edit (option_map (option_map APart) (edited edits k part)) (option_map APart (part_of o part)) ≡ option_map APart (part_of (put_behind last request (place_in chain k) o) part)
edits_turn rows request [] last k part [] o are known = refl
edits_turn rows request [] last k part (e ∷ es) o are known = absurd are
edits_turn rows request (c ∷ cs) last k part [] o are known = absurd are
edits_turn rows request (c ∷ cs) last k part (e ∷ es) o are known = by (c == k) refl (edits_turn rows request cs (last + 1) k part es o are.1 known)
  where
    further : (p : Option ℕ) → put_behind (last + 1) request p o ≡ put_behind last request (option_map (λ j. j + 1) p) o
    further None = refl
    further (Some j) = let e : last + 1 + j ≡ last + (j + 1) = omega arith in ap (λ place. option_map (λ x. joined_at place request x) o) e

    by : (b : Bool) → (c == k) ≡ b → after_row_edit (option_map (option_map APart) (edited es k part)) (option_map APart (part_of o part)) ≡ option_map APart (part_of (put_behind (last + 1) request (place_in cs k) o) part) →
        after_row_edit (option_map (option_map APart) (cond (e.change == k) (part_change e part) (edited es k part))) (option_map APart (part_of o part))
        ≡ option_map APart (part_of (put_behind last request (cond (c == k) (Some 1) (option_map (λ j. j + 1) (place_in cs k))) o) part)
    by true same rest =
        ap (λ n. after_row_edit (option_map (option_map APart) (cond (n == k) (part_change e part) (edited es k part))) (option_map APart (part_of o part))) are.0.named
        ∙ (ap (λ b. after_row_edit (option_map (option_map APart) (cond b (part_change e part) (edited es k part))) (option_map APart (part_of o part))) same
        ∙ (edit_here rows request c (last + 1) e part o are.0 (λ x is. known x (ap (change_at rows) (sym (eqb-true c k same)) ∙ is))
        ∙ ap (λ b. option_map APart (part_of (put_behind last request (cond b (Some 1) (option_map (λ j. j + 1) (place_in cs k))) o) part)) (sym same)))
    by false other rest =
        ap (λ n. after_row_edit (option_map (option_map APart) (cond (n == k) (part_change e part) (edited es k part))) (option_map APart (part_of o part))) are.0.named
        ∙ (ap (λ b. after_row_edit (option_map (option_map APart) (cond b (part_change e part) (edited es k part))) (option_map APart (part_of o part))) other
        ∙ (rest
        ∙ (ap (λ p. option_map APart (part_of p part)) (further (place_in cs k))
        ∙ ap (λ b. option_map APart (part_of (put_behind last request (cond b (Some 1) (option_map (λ j. j + 1) (place_in cs k))) o) part)) (sym other))))

unmapped : (o : Option ℕ) (k : ℕ) → option_map (λ j. j + 1) o ≡ Some k → (j : ℕ) × (o ≡ Some j)
unmapped None k e = absurd (let f : None ≡ Some k = e in cc)
unmapped (Some j) k e = (j, refl)

-- what holds of all in a list holds of one that has a place there
at_place : (P : ℕ → Type 0) (xs : List ℕ) (n k : ℕ) → AllByRecursion P xs → place_in xs n ≡ Some k → P n
at_place P [] n k all is = absurd (let f : None ≡ Some k = is in cc)
at_place P (x ∷ xs) n k all is = by (x == n) refl is (λ j e. at_place P xs n j all.1 e)
  where
    by : (b : Bool) → (x == n) ≡ b → cond b (Some 1) (option_map (λ j. j + 1) (place_in xs n)) ≡ Some k → ((j : ℕ) → place_in xs n ≡ Some j → P n) → P n
    by true same is on = subst P (eqb-true x n same) all.0
    by false other is on = let j = unmapped (place_in xs n) k is in on j.0 j.1

-- the changes of a chain join at the places behind those that joined before
pub joining_is : (reading : Reading) (h : List Entry) (rows : Rows) (project branch : List ℕ) (chain : List ℕ) (last k : ℕ) → AllByRecursion (IsMember rows project branch) chain → last ≡ length (joined h project branch) →
    ((x : Change) → change_at rows k ≡ Some x → change reading h k ≡ Some x) → put_behind last (length h + 1) (place_in chain k) (change reading h k) ≡ joining h chain k (change reading h k)
joining_is reading h rows project branch chain last k all many known = by (place_in chain k) refl
  where
    by : (o : Option ℕ) → place_in chain k ≡ o → put_behind last (length h + 1) (place_in chain k) (change reading h k) ≡ joining_at h (place_in chain k) (change reading h k)
    by None none = ap (λ o. put_behind last (length h + 1) o (change reading h k)) none ∙ sym (ap (λ o. joining_at h o (change reading h k)) none)
    by (Some j) some =
        let m = at_place (IsMember rows project branch) chain k j all some in
        let there = known m.of m.there in
        let count : last ≡ length (joined h m.of.project m.of.branch) = many ∙ (λ i. length (joined h (sym m.project_is i) (sym m.branch_is i))) in
        ap (λ o. put_behind last (length h + 1) o (change reading h k)) some
        ∙ (ap (λ c. put_behind last (length h + 1) (Some j) c) there
        ∙ (ap (λ n. Some (joined_at (n + j) (length h + 1) m.of)) count
        ∙ (sym (ap (λ c. joining_at h (Some j) c) there) ∙ sym (ap (λ o. joining_at h o (change reading h k)) some))))

-- a submit of a chain that joins is decided
pub joined_decided : (reading : Reading) (h : List Entry) (caller n : ℕ) (rows : Rows) (project branch : List ℕ) (chain : List ℕ) (last : ℕ) (edits : List ChangeEdit) (delta : Delta) →
    AllByRecursion (IsMember rows project branch) chain → last ≡ length (joined h project branch) → AreJoinEdits rows (length h + 1) (places_from (last + 1) chain) edits → EditsChanges edits delta →
    ((k : ℕ) (x : Change) → change_at rows k ≡ Some x → change reading h k ≡ Some x) → IsAnswerBy reading h caller (Submit n) (Done (Submitted chain)) → IsDecided reading h caller (Submit n) delta (Done (Submitted chain))
joined_decided reading h caller n rows project branch chain last edits delta all many are only known answer = decided_by h caller (Submit n) (Submitted chain) only answer each counts
  where
    each : (k : Key) → fact reading (entry_of caller 0 [] (Submit n) (Done (Submitted chain)) ∷ h) k ≡ row_by (record no_edits { changes = edits }) k (fact reading h k)
    each (PartKey k part) =
        ap (λ o. option_map APart (part_of o part)) (sym (joining_is reading h rows project branch chain last k all many (known k)))
        ∙ sym (edits_turn rows (length h + 1) chain last k part edits (change reading h k) are (known k))
    each _ = refl

    counts : (c : Count) → counted (entry_of caller 0 [] (Submit n) (Done (Submitted chain)) ∷ h) c ≡ count_by (record no_edits { changes = edits }) (fact reading h) c (counted h c)
    counts Projects = refl
    counts _ = refl

-- ==== what the rows of a submit tell of the history

-- ---- laws of branches

-- every branch of a history is whole
abbrev pub BranchesAreWhole : Type 0
BranchesAreWhole = (reading : Reading) (h : List Entry) (project branch : List ℕ) → IsHistory h → Reads reading h → IsWhole (branch_after reading h project branch)

-- what rows know of a branch is so
abbrev pub RowsKnowBranches : Type 0
RowsKnowBranches = (reading : Reading) (h : List Entry) (rows : Rows) (project branch : List ℕ) → IsHistory h → Reads reading h → Agrees (view reading h) rows → IsPart (links_in rows project branch) (branch_after reading h project branch)

-- what is wanted for the chain of a change was not looked up
abbrev pub WantedIsUnmade : Type 0
WantedIsUnmade = (reading : Reading) (h : List Entry) (rows : Rows) (n : ℕ) (c : Change) (w : ChainWant) → IsHistory h → Reads reading h → Agrees (view reading h) rows → change reading h n ≡ Some c →
    wanted (links_in rows c.project c.branch) n ≡ Some w → IsKnown rows (look_up c.project c.branch w) → ⊥

-- ---- the change and its project's file

-- a change that rows know is that of the history
pub change_known : (reading : Reading) (h : List Entry) (rows : Rows) (n : ℕ) (c : Change) → Agrees (view reading h) rows → change_at rows n ≡ Some c → change reading h n ≡ Some c
change_known reading h rows n c agree found = sym (change_told reading h rows n agree (by (is_some (known rows (want.Change n))) refl)) ∙ found
  where
    by : (b : Bool) → is_some (known rows (want.Change n)) ≡ b → IsKnown rows (want.Change n)
    by true e = e
    by false e = absurd (none_known (known rows (want.Change n)) e found)
      where
        none_known : (o : Option Found) → is_some o ≡ false → change_in o ≡ Some c → ⊥
        none_known None e f = let g : None ≡ Some c = f in cc
        none_known (Some x) e f = let g : true ≡ false = e in cc

-- the last place of its branch among what a submit asked by its change
pub last_asked : (reading : Reading) (h : List Entry) (caller n : ℕ) (effective : Option File) (rows : Rows) (c : Change) → change_at rows n ≡ Some c → AreEnough reading h caller (OfCommand (Submit n)) effective rows →
    IsKnown rows (want.LastJoined (record { project = c.project; branch = c.branch }))
last_asked reading h caller n effective rows c found l = (submit_asked reading h caller effective rows n c found l).1.0

-- no change of a history is of a project without a file
pub lacking_undecided : (caller n : ℕ) (rows : Rows) (c : Change) → change_at rows n ≡ Some c → IsUndecided caller (Submit n) None rows Damaged
lacking_undecided caller n rows c found reading h history l =
    let none = lacks_project h c.project (submit_file reading h caller None rows n c found l) in
    let some = has_project reading h n c history l.reads (change_known reading h rows n c l.agree found) in
    let bad : false ≡ true = sym none ∙ some in
    absurd (cc)

-- what refuses a submit is what rows tell, of a change that isn't there
pub absent_told : OneEffective → (reading : Reading) (h : List Entry) (caller n : ℕ) (effective : Option File) (rows : Rows) → is_account h caller ≡ true → change_at rows n ≡ None →
    AreEnough reading h caller (OfCommand (Submit n)) effective rows → refused_by reading h caller (Submit n) ≡ Some NoChange
absent_told one reading h caller n effective rows account none l =
    submit_refused_told reading h caller effective rows one n account l ∙ ap (λ o. first_refusal (of_change (submit_checks (facts_by rows effective) caller) o)) none

-- and of one that is
pub refused_told : OneEffective → (reading : Reading) (h : List Entry) (caller n : ℕ) (file : File) (rows : Rows) (c : Change) → is_account h caller ≡ true → change_at rows n ≡ Some c →
    AreEnough reading h caller (OfCommand (Submit n)) (Some file) rows → refused_by reading h caller (Submit n) ≡ first_refusal (submit_checks (facts_by rows (Some file)) caller c)
refused_told one reading h caller n file rows c account found l =
    submit_refused_told reading h caller (Some file) rows one n account l ∙ ap (λ o. first_refusal (of_change (submit_checks (facts_by rows (Some file)) caller) o)) found

-- ---- the chain

-- a bad link that rows show is that of the history
pub bad_told : RowsKnowBranches → (reading : Reading) (h : List Entry) (rows : Rows) (n : ℕ) (c : Change) (reply : Reply) → IsHistory h → Reads reading h → Agrees (view reading h) rows →
    HasBadLink (links_in rows c.project c.branch) n reply → HasBadLink (branch_after reading h c.project c.branch) n reply
bad_told law reading h rows n c reply history reads agree bad = record {
  walk = bad.walk;
  fault = bad.fault;
  bad = bad_kept (links_in rows c.project c.branch) (branch_after reading h c.project c.branch) bad.walk n bad.fault (law reading h rows c.project c.branch history reads agree) bad.bad;
  refusal = bad.refusal;
  named = bad.named;
  reply_is = bad.reply_is;
}

-- ---- requirements

-- what is said of one change of some
abbrev Judged : (ℕ → Option (Setting × Change)) → ℕ → List ℕ → Option (ℕ × List ℕ) → Setting × Change → Type 0
Judged at n ns found c =
    (shown : List ShownRequirement) × AreStanding c.0 c.1 shown × MatchOption (unsatisfied_in shown) (IsFirstUnsatisfied at ns found) (λ requirement. found ≡ Some (n, requirement))

standing_of_one : OneEffective → GroupsSuffice → (reading : Reading) (h : List Entry) (caller n : ℕ) (file : File) (rows : Rows) (c x : Change) (shown : List ShownRequirement) → change_at rows n ≡ Some c →
    AreEnough reading h caller (OfCommand (Submit n)) (Some file) rows → x.project ≡ c.project → AreStanding (setting_in file rows) x shown → AreStanding (setting_of reading h x.project) x shown
standing_of_one one law reading h caller n file rows c x shown found l same is =
    let groups = split_all (IsKnown rows) (caller_in caller file.access.submit) (map want.Group _) (file_asked (Some file) rows caller (OfCommand (Submit n)) l.nothing_left) in
    let trees = same_trees one reading h c.project (Some file) l.reads (submit_file reading h caller (Some file) rows n c found l) in
    standing_told law reading h rows file x shown l.agree (trees ∙ ap (λ p. file_trees (file_of reading h p)) (sym same)) groups.1 is

-- how requirements stand for the changes of a chain, by what rows tell, is how they stand after the history
pub unsatisfied_told : OneEffective → GroupsSuffice → (reading : Reading) (h : List Entry) (caller n : ℕ) (file : File) (rows : Rows) (c : Change) → change_at rows n ≡ Some c →
    AreEnough reading h caller (OfCommand (Submit n)) (Some file) rows → (ds : List ℕ) (found : Option (ℕ × List ℕ)) → AllByRecursion (IsMember rows c.project c.branch) ds →
    IsFirstUnsatisfied (judged_in file rows) ds found → IsFirstUnsatisfied (judged_after reading h) ds found
unsatisfied_told one law reading h caller n file rows c there l [] found all is = is
unsatisfied_told one law reading h caller n file rows c there l (d ∷ ds) found all is =
    let m = all.0 in
    let now : judged_in file rows d ≡ Some (setting_in file rows, m.of) = ap (option_map (λ x. (setting_in file rows, x))) m.there in
    let after : judged_after reading h d ≡ Some (setting_of reading h m.of.project, m.of) = ap (option_map (λ (x : Change). (setting_of reading h x.project, x))) (change_known reading h rows d m.of l.agree m.there) in
    let s = subst (λ o. MatchOption o ⊥ (λ j. Judged (judged_in file rows) d ds found j)) now is in
    subst (λ o. MatchOption o ⊥ (λ j. Judged (judged_after reading h) d ds found j)) (sym after)
    (s.0, standing_of_one one law reading h caller n file rows c m.of s.0 there l m.project_is s.1, rest (unsatisfied_in s.0) s.2 (λ more. unsatisfied_told one law reading h caller n file rows c there l ds found all.1 more))
  where
    rest : (o : Option (List ℕ)) → MatchOption o (IsFirstUnsatisfied (judged_in file rows) ds found) (λ requirement. found ≡ Some (d, requirement)) →
        (IsFirstUnsatisfied (judged_in file rows) ds found → IsFirstUnsatisfied (judged_after reading h) ds found) →
        MatchOption o (IsFirstUnsatisfied (judged_after reading h) ds found) (λ requirement. found ≡ Some (d, requirement))
    rest None more on = on more
    rest (Some requirement) is on = is

-- ---- what isn't decided

-- what a walk wants is what is wanted
wanted_is : (b : Branch) (walk : List ℕ) (c : ℕ) (w : ChainWant) → IsWanted b walk c w → wanted b c ≡ Some w
wanted_is b walk c w is = by_said (wanted b c) (wanted_says b c)
  where
    by_said : (o : Option ChainWant) → Says b c o → o ≡ Some w
    by_said None decided = absurd (decided walk w is)
    by_said (Some other) said =
        let same : Wants other ≡ Wants w = one_end b said.0 walk c (Wants other) (Wants w) (wanted_meets b said.0 c other said.1) tt (wanted_meets b walk c w is) tt in
        let e : other ≡ w = cc in
        ap Some e

-- something that is wanted isn't where a submit has nothing left to ask
wanted_left : WantedIsUnmade → (reading : Reading) (h : List Entry) (caller n : ℕ) (effective : Option File) (rows : Rows) (c : Change) (w : ChainWant) → IsHistory h → change_at rows n ≡ Some c → is_open c.state ≡ true → c.wip ≡ false →
    AreEnough reading h caller (OfCommand (Submit n)) effective rows → wanted (links_in rows c.project c.branch) n ≡ Some w → ⊥
wanted_left law reading h caller n effective rows c w history found opened ready l is =
    law reading h rows n c w history l.reads l.agree (change_known reading h rows n c l.agree found) is (each_known rows (look_up c.project c.branch w ∷ []) (sym same ∙ none)).0
  where
    none : last_wants rows (OfCommand (Submit n)) ≡ []
    none = (all_made effective rows caller (OfCommand (Submit n)) l.nothing_left).1

    asks : wanted_for rows n c ≡ Some w
    asks = (λ i. if opened i && not (ready i) then wanted (links_in rows c.project c.branch) n else None) ∙ is

    same : last_wants rows (OfCommand (Submit n)) ≡ unknown rows (look_up c.project c.branch w ∷ [])
    same = ap (λ o. unknown rows (wants_by (chain_wants rows n) o)) found ∙ ap (λ o. unknown rows (option_to_list (option_map (look_up c.project c.branch) o))) asks

-- rows that don't fit together are those of no history
pub unchained_undecided : ChangesAreSound → BranchesAreWhole → RowsKnowBranches → WantedIsUnmade → (caller n : ℕ) (effective : Option File) (rows : Rows) (c : Change) → change_at rows n ≡ Some c → is_open c.state ≡ true → c.wip ≡ false →
    (e : Cause) → IsUnchained rows n c e → IsUndecided caller (Submit n) effective rows e
unchained_undecided sound whole part unmade caller n effective rows c found opened ready Memory is = tt
unchained_undecided sound whole part unmade caller n effective rows c found opened ready Pattern is = absurd is
unchained_undecided sound whole part unmade caller n effective rows c found opened ready Damaged is = λ reading h history l. by reading h history l is
  where
    unlinked : (reading : Reading) (h : List Entry) → IsHistory h → AreEnough reading h caller (OfCommand (Submit n)) effective rows → IsUnlinked rows n c → ⊥
    unlinked reading h history l (inl (walk, bad)) =
        whole_sound (branch_after reading h c.project c.branch) walk n Broken (whole reading h c.project c.branch history l.reads)
        (bad_kept (links_in rows c.project c.branch) (branch_after reading h c.project c.branch) walk n Broken (part reading h rows c.project c.branch history l.reads l.agree) bad) refl
    unlinked reading h history l (inr (walk, w, is)) = wanted_left unmade reading h caller n effective rows c w history found opened ready l (wanted_is (links_in rows c.project c.branch) walk n w is)

    by : (reading : Reading) (h : List Entry) → IsHistory h → AreEnough reading h caller (OfCommand (Submit n)) effective rows → HasUnsound rows ⊎ IsUnlinked rows n c → ⊥
    by reading h history l (inl (k, x, there, unsound)) = unsound (sound reading h k x history l.reads (change_known reading h rows k x l.agree there))
    by reading h history l (inr broken) = unlinked reading h history l broken
unchained_undecided sound whole part unmade caller n effective rows c found opened ready _ is = is

-- ==== a submit that is decided

-- the last place that rows tell of a branch is how many changes joined it
abbrev pub LastIsLength : Type 0
LastIsLength = (reading : Reading) (h : List Entry) (project branch : List ℕ) (last : ℕ) → IsHistory h → Reads reading h → IsLastJoined (fact reading h) (record { project = project; branch = branch }) last → last ≡ length (joined h project branch)

-- no more changes join a branch than there are
abbrev pub JoinedFew : Type 0
JoinedFew = (reading : Reading) (h : List Entry) (project branch : List ℕ) → IsHistory h → Reads reading h → length (joined h project branch) ≤ change_count h

-- what a submit is told is its answer
answered : (reading : Reading) (h : List Entry) (caller n : ℕ) (c : Change) (reply : Reply) → change reading h n ≡ Some c → refused_by reading h caller (Submit n) ≡ None → IsSubmitAnswer reading h n c reply → IsAnswerBy reading h caller (Submit n) reply
answered reading h caller n c reply told passes is = outcome_answer reading h caller (Submit n) reply passes (subst (IsOf (λ x. IsSubmitAnswer reading h n x reply)) (sym told) is)

-- one that is refused changes nothing
nothing_joins : (reading : Reading) (h : List Entry) (caller n : ℕ) (delta : Delta) (reply : Reply) (refusal : Refusal) → IsEmpty delta → reply ≡ Refused refusal → IsAnswerBy reading h caller (Submit n) reply → IsDecided reading h caller (Submit n) delta reply
nothing_joins reading h caller n delta reply refusal empty is answer =
    subst (λ r. IsDecided reading h caller (Submit n) delta r) (sym is) (refused_decided h caller (Submit n) delta refusal empty (subst (IsAnswerBy reading h caller (Submit n)) is answer))

last_told : LastIsLength → (reading : Reading) (h : List Entry) (caller n : ℕ) (file : File) (rows : Rows) (c : Change) → IsHistory h → change_at rows n ≡ Some c → AreEnough reading h caller (OfCommand (Submit n)) (Some file) rows →
    last_in rows c ≡ length (joined h c.project c.branch)
last_told law reading h caller n file rows c history found l =
    let r = found_of (view reading h) rows (want.LastJoined (record { project = c.project; branch = c.branch })) l.agree (last_asked reading h caller n (Some file) rows c found l) in
    ap number_of (r.1 ∙ ap Some r.2.1) ∙ law reading h c.project c.branch r.2.0 history l.reads r.2.2

-- one that is accepted joins its chain
chain_joins : LastIsLength → JoinedFew → (reading : Reading) (h : List Entry) (caller n : ℕ) (file : File) (rows : Rows) (c : Change) (delta : Delta) (chain : List ℕ) → length h < most_requests → IsHistory h → change_at rows n ≡ Some c →
    AreEnough reading h caller (OfCommand (Submit n)) (Some file) rows → IsChain (links_in rows c.project c.branch) chain n → JoinsChain rows c chain delta → IsAnswerBy reading h caller (Submit n) (Done (Submitted chain)) →
    IsDecided reading h caller (Submit n) delta (Done (Submitted chain))
chain_joins law few reading h caller n file rows c delta chain room history found l is made answer =
    joined_decided reading h caller n rows c.project c.branch chain (last_in rows c) made.edits delta (members rows c n chain found is) many
    (subst (λ (js : List (ℕ × ℕ)). AreJoinEdits rows (length h + 1) js made.edits) (made.places within) (subst (λ (q : ℕ). AreJoinEdits rows q made.joined made.edits) request made.are)) made.only
    (λ d x there. change_known reading h rows d x l.agree there) answer
  where
    many : last_in rows c ≡ length (joined h c.project c.branch)
    many = last_told law reading h caller n file rows c history found l

    request : next_request rows ≡ length h + 1
    request = request_is reading h caller (Submit n) (Some file) rows room l

    within : last_in rows c + length chain < 2 ^ 32
    within =
        let a : length (joined h c.project c.branch) ≤ change_count h = few reading h c.project c.branch history l.reads in
        let b : change_count h ≤ 1000000000 = changes_bound reading h l.reads history in
        let s : length chain ≤ 100 = is.short in
        let m = many in
        let big : 4294967296 ≡ 2 ^ 32 = refl in
        subst (λ (bound : ℕ). last_in rows c + length chain < bound) big (omega arith)

pub submit_decided : OneEffective → GroupsSuffice → RowsKnowBranches → LastIsLength → JoinedFew → (reading : Reading) (h : List Entry) (caller n : ℕ) (file : File) (rows : Rows) (c : Change) (delta : Delta) (reply : Reply) →
    length h < most_requests → IsHistory h → change_at rows n ≡ Some c → AreEnough reading h caller (OfCommand (Submit n)) (Some file) rows → refused_by reading h caller (Submit n) ≡ None →
    IsSubmitted file rows n c delta reply → IsDecided reading h caller (Submit n) delta reply
submit_decided one law part last few reading h caller n file rows c delta reply room history found l passes (inl (bad, empty)) =
    let told = change_known reading h rows n c l.agree found in
    nothing_joins reading h caller n delta reply bad.refusal empty bad.reply_is (answered reading h caller n c reply told passes (inl (bad_told part reading h rows n c reply history l.reads l.agree bad)))
submit_decided one law part last few reading h caller n file rows c delta reply room history found l passes (inr is) = by is.found is.checked is.reply_is is.made
  where
    told : change reading h n ≡ Some c
    told = change_known reading h rows n c l.agree found

    answer : (o : Option (ℕ × List ℕ)) → IsFirstUnsatisfied (judged_in file rows) is.chain o → reply ≡ checked_reply is.chain o → IsAnswerBy reading h caller (Submit n) reply
    answer o checked reply_is = answered reading h caller n c reply told passes
        (inr (record {
          chain = is.chain;
          is_chain = chain_kept (links_in rows c.project c.branch) (branch_after reading h c.project c.branch) is.chain n (part reading h rows c.project c.branch history l.reads l.agree) is.is_chain;
          found = o;
          checked = unsatisfied_told one law reading h caller n file rows c found l is.chain o (members rows c n is.chain found is.is_chain) checked;
          reply_is = reply_is;
        }))

    by : (o : Option (ℕ × List ℕ)) → IsFirstUnsatisfied (judged_in file rows) is.chain o → reply ≡ checked_reply is.chain o → Makes rows c is.chain o delta → IsDecided reading h caller (Submit n) delta reply
    by None checked reply_is made =
        subst (λ r. IsDecided reading h caller (Submit n) delta r) (sym reply_is)
        (chain_joins last few reading h caller n file rows c delta is.chain room history found l is.is_chain made
        (subst (IsAnswerBy reading h caller (Submit n)) reply_is (answer None checked reply_is)))
    by (Some requirement) checked reply_is made = nothing_joins reading h caller n delta reply (RequirementUnsatisfied requirement.0 requirement.1) made reply_is (answer (Some requirement) checked reply_is)
