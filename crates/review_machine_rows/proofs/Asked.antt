-- What was asked is known, and asking ends.
use Rattle.std.proofs.Common.{◌≡◌, ℕ, ◌+◌, ◌<◌, ◌≤◌, List, [], ◌∷◌, length, zero, suc, Option, Some, None, Bool, true, false, cond, not, IsSome, refl, sym, ap, ◌∙◌, subst, ⊎_elim, arith, All, is_some, ◌&&◌, ◌++◌, option_and_then, option_map, option_to_list}
use Rattle.review_words.specs.declared.command.ChangeQuery.{ChangeQuery}
use Rattle.review_words.specs.declared.command.Command.TheVariants.{CreateAccount, PutGroup, PutProject, RecordBase, CloseEpoch, CreateChange, OnChange, Submit}
use Rattle.review_chain.proofs.LookingUp.{fewer_left, most_left}
use Rattle.review_chain.proofs.Parting.{Says, still_wanted, walked_kept, wanted_says}
use Rattle.review_chain.specs.Parts.{Want as ChainWant, TheChange, TheCommit, IsPart, Knows}
use Rattle.review_chain.specs.{Steps.wanted, Steps.left as left_in_chain, declared.walks.Walked.Walked}
use Rattle.review_machine_rows.proofs.Common.{All-head, All-tail, AllByRecursion, Branch, Change, ChangeCommand, Command, File, Given, Link, Rows, Standing, Want, cases_Bool, is_open, most_depth, named_parent}
use Rattle.review_machine_rows.specs.Known.{Found, Stands, IsFound, known, number_of, change_in, standing_of, file_in, Agrees, IsKnown, StaysKnown}
use Rattle.review_machine_rows.specs.{Links.link_for, Links.links_in, Rows.ClosedEpochs, Rows.Tables}
use Rattle.review_machine_rows.specs.Steps.{Topic, OfCommand, OfQuery, admin_wants, asks_admin, command_wants, first_wants, change_wants, file_wants, given_wants, has_some, question_wants, request_wants, submit_wants, wants_by, own_in, known_parent, parent_or, needs_file, project_for, asks_file, parent_of, line_wants, line_steps, wanted_for, chain_wants, chain_left, last_of, last_wants, look_up, steps, unknown, or_next, next, next_of, left, left_before, left_if, left_of, left_where, AskingLowers, ComesTo, HasComeTo, IsWalkTo, MayGoOnFor}
use Rattle.review_machine_rows.specs.declared.step.Step.{Step}
use Rattle.review_words.specs.declared.command.Query.TheVariants as asked
use Rattle.review_machine_rows.specs.declared.rows.Want.TheVariants as want
use Rattle.review_machine_rows.specs.declared.step.Step.TheVariants as step
use Rattle.review_words.specs.declared.command.ChangeCommand.TheVariants as on
use Rattle.review_words.specs.declared.command.ChangeQuery.TheVariants as shown

-- what a look-up that was made found in tables that agree
pub found_of : (t : Tables) (rows : Rows) (w : Want) → Agrees t rows → IsKnown rows w → (f : Found) × (known rows w ≡ Some f) × IsFound t w f
found_of t rows w agree there = at (known rows w) refl there
  where
    at : (o : Option Found) → known rows w ≡ o → is_some o ≡ true → (f : Found) × (known rows w ≡ Some f) × IsFound t w f
    at None e there = absurd (cc)
    at (Some f) e there = (f, e, agree w f e)

-- where none of some look-ups is left, all were made
pub each_known : (rows : Rows) (ws : List Want) → unknown rows ws ≡ [] → AllByRecursion (IsKnown rows) ws
each_known rows [] none = tt
each_known rows (w ∷ ws) none = ⊎_elim
    (λ (t : is_some (known rows w) ≡ true). (t, each_known rows ws (sym (ap (λ b. cond (not b) (w ∷ unknown rows ws) (unknown rows ws)) t) ∙ none)))
    (λ (f : is_some (known rows w) ≡ false). let e : w ∷ unknown rows ws ≡ [] = sym (ap (λ b. cond (not b) (w ∷ unknown rows ws) (unknown rows ws)) f) ∙ none in absurd (cc))
    (cases_Bool (is_some (known rows w)))

-- rows that know all look-ups that were left too leave none
none_left : (rows more : Rows) (ws : List Want) → StaysKnown rows more → AllByRecursion (IsKnown more) (unknown rows ws) → unknown more ws ≡ []
none_left rows more [] stays all = refl
none_left rows more (w ∷ ws) stays all = ⊎_elim
    (λ (t : is_some (known rows w) ≡ true).
    let rest = subst (AllByRecursion (IsKnown more)) (ap (λ b. cond (not b) (w ∷ unknown rows ws) (unknown rows ws)) t) all in
    here (ap is_some (stays w t) ∙ t) ∙ none_left rows more ws stays rest)
    (λ (f : is_some (known rows w) ≡ false).
    let left : AllByRecursion (IsKnown more) (w ∷ unknown rows ws) = subst (AllByRecursion (IsKnown more)) (ap (λ b. cond (not b) (w ∷ unknown rows ws) (unknown rows ws)) f) all in
    here left.0 ∙ none_left rows more ws stays left.1)
    (cases_Bool (is_some (known rows w)))
  where
    here : is_some (known more w) ≡ true → unknown more (w ∷ ws) ≡ unknown more ws
    here t = ap (λ b. cond (not b) (w ∷ unknown more ws) (unknown more ws)) t

by_recursion : {X : Type 0} (P : X → Type 0) (xs : List X) → All P xs → AllByRecursion P xs
by_recursion P [] all = tt
by_recursion P (x ∷ xs) all = (All-head P x xs all, by_recursion P xs (All-tail P x xs all))

-- ---- what is asked next isn't known

module _ (rows : Rows) where
  abbrev pub IsUnknown : Want → Type 0
  IsUnknown w = IsKnown rows w → ⊥

  unmade : (ws : List Want) → AllByRecursion IsUnknown (unknown rows ws)
  unmade [] = tt
  unmade (w ∷ ws) = at (is_some (known rows w)) refl (unmade ws)
    where
      at : (b : Bool) → is_some (known rows w) ≡ b → AllByRecursion IsUnknown (unknown rows ws) → AllByRecursion IsUnknown (cond (not b) (w ∷ unknown rows ws) (unknown rows ws))
      at true e rest = rest
      at false e rest = (λ there. let f : false ≡ true = sym e ∙ there in absurd (cc), rest)

  or_unmade : (a b : List Want) → AllByRecursion IsUnknown a → AllByRecursion IsUnknown b → AllByRecursion IsUnknown (or_next a b)
  or_unmade [] b one two = two
  or_unmade (w ∷ ws) b one two = one

  steps_unmade : (xs : List (List Want)) → AllByRecursion IsUnknown (next_of rows xs)
  steps_unmade [] = tt
  steps_unmade (x ∷ xs) = or_unmade (unknown rows x) (next_of rows xs) (unmade x) (steps_unmade xs)

  last_unmade : (topic : Topic) → AllByRecursion IsUnknown (last_wants rows topic)
  last_unmade (OfCommand (Submit n)) = unmade (wants_by (chain_wants rows n) (change_in (known rows (want.Change n))))
  last_unmade _ = tt

  pub next_unmade : (file : Option File) (caller : ℕ) (topic : Topic) → AllByRecursion IsUnknown (next file rows caller topic)
  next_unmade file caller topic = or_unmade (next_of rows (steps file rows caller topic)) (last_wants rows topic) (steps_unmade (steps file rows caller topic)) (last_unmade topic)

-- nothing is left of a list, and nothing after it
pub none_in : (a b : List Want) → or_next a b ≡ [] → (a ≡ []) × (b ≡ [])
none_in [] b none = (refl, none)
none_in (w ∷ ws) b none = absurd (cc)

-- what is asked behind whether the caller is an administrator was asked
behind_admin : (rows : Rows) (caller : ℕ) (asks : Bool) (wants : List Want) → AllByRecursion (IsKnown rows) (admin_wants caller asks ++ wants) → AllByRecursion (IsKnown rows) wants
behind_admin rows caller true wants all = all.1
behind_admin rows caller false wants all = all

-- all that a command asks beside its caller was asked
pub beside_caller : (rows : Rows) (caller : ℕ) (command : Command) → AllByRecursion (IsKnown rows) (first_wants caller (OfCommand command)) → AllByRecursion (IsKnown rows) (command_wants command)
beside_caller rows caller command all = behind_admin rows caller (asks_admin command) (command_wants command) all.1.1

-- where nothing is left to ask, nothing is left of the steps, and nothing that is asked last
pub all_made : (file : Option File) (rows : Rows) (caller : ℕ) (topic : Topic) → next file rows caller topic ≡ [] → (next_of rows (steps file rows caller topic) ≡ []) × (last_wants rows topic ≡ [])
all_made file rows caller topic none = none_in (next_of rows (steps file rows caller topic)) (last_wants rows topic) none

-- where nothing is left to ask, nothing is left of each step
none_of_steps : (rows : Rows) (xs : List (List Want)) → next_of rows xs ≡ [] → AllByRecursion (λ x. unknown rows x ≡ []) xs
none_of_steps rows [] none = tt
none_of_steps rows (x ∷ xs) none = let p = none_in (unknown rows x) (next_of rows xs) none in (p.0, none_of_steps rows xs p.1)

-- where nothing is left to ask, all was asked that is asked first
pub all_asked : (file : Option File) (rows : Rows) (caller : ℕ) (topic : Topic) → next file rows caller topic ≡ [] → AllByRecursion (IsKnown rows) (first_wants caller topic)
all_asked file rows caller topic none = each_known rows (first_wants caller topic) (none_of_steps rows (steps file rows caller topic) (all_made file rows caller topic none).0).0

-- and all that is asked by the change
pub change_asked : (file : Option File) (rows : Rows) (caller : ℕ) (topic : Topic) → next file rows caller topic ≡ [] → AllByRecursion (IsKnown rows) (change_wants rows topic)
change_asked file rows caller topic none = each_known rows (change_wants rows topic) (none_of_steps rows (steps file rows caller topic) (all_made file rows caller topic none).0).1.0

-- what is true of each step is true of the last
of_last : (P : List Want → Type 0) (xs : List (List Want)) (x : List Want) → AllByRecursion P (xs ++ x ∷ []) → P x
of_last P [] x all = all.0
of_last P (y ∷ ys) x all = of_last P ys x all.1

-- and of each before the last
of_others : (P : List Want → Type 0) (xs : List (List Want)) (x : List Want) → AllByRecursion P (xs ++ x ∷ []) → AllByRecursion P xs
of_others P [] x all = tt
of_others P (y ∷ ys) x all = (all.0, of_others P ys x all.1)

-- and all that is asked by the file
pub file_asked : (file : Option File) (rows : Rows) (caller : ℕ) (topic : Topic) → next file rows caller topic ≡ [] → AllByRecursion (IsKnown rows) (file_wants file caller topic)
file_asked file rows caller topic none =
    each_known rows (file_wants file caller topic)
    (of_last (λ s. unknown rows s ≡ []) (line_steps rows most_depth (parent_of rows topic)) (file_wants file caller topic) (none_of_steps rows (steps file rows caller topic) (all_made file rows caller topic none).0).1.1)

-- and the files of the ancestors
pub line_asked : (file : Option File) (rows : Rows) (caller : ℕ) (topic : Topic) → next file rows caller topic ≡ [] → AllByRecursion (λ s. unknown rows s ≡ []) (line_steps rows most_depth (parent_of rows topic))
line_asked file rows caller topic none =
    of_others (λ s. unknown rows s ≡ []) (line_steps rows most_depth (parent_of rows topic)) (file_wants file caller topic) (none_of_steps rows (steps file rows caller topic) (all_made file rows caller topic none).0).1.1

-- a submit asks first for its change
submit_known : (rows : Rows) (caller n : ℕ) → unknown rows (first_wants caller (OfCommand (Submit n))) ≡ [] → IsKnown rows (want.Change n)
submit_known rows caller n none = (each_known rows (first_wants caller (OfCommand (Submit n))) none).1.1.0

-- once the change is known, what it asks stays
same_wants : (rows more : Rows) (caller : ℕ) (topic : Topic) → StaysKnown rows more → unknown rows (first_wants caller topic) ≡ [] → change_wants more topic ≡ change_wants rows topic
same_wants rows more caller (OfQuery (asked.OnChange change query)) stays none =
    ap (λ k. wants_by (question_wants query) (change_in k)) (stays (want.Change change) (each_known rows (first_wants caller (OfQuery (asked.OnChange change query))) none).1.0)
same_wants rows more caller (OfCommand (Submit change)) stays none =
    ap (λ k. wants_by submit_wants (change_in k)) (stays (want.Change change) (submit_known rows caller change none))
same_wants rows more caller (OfCommand (OnChange change command)) stays none =
    ap (λ k. wants_by (request_wants command) (change_in k)) (stays (want.Change change) (beside_caller rows caller (OnChange change command) (each_known rows (first_wants caller (OfCommand (OnChange change command))) none)).0)
same_wants rows more caller _ stays none = refl

-- steps of which each is the same in both where those before it were made
abbrev pub AreSteps : Rows → List (List Want) → List (List Want) → Type 0
AreSteps rows [] [] = Unit {0}
AreSteps rows [] (y ∷ ys) = ⊥
AreSteps rows (x ∷ xs) [] = ⊥
AreSteps rows (x ∷ xs) (y ∷ ys) = (x ≡ y) × (length xs ≡ length ys) × (unknown rows x ≡ [] → AreSteps rows xs ys)

bounded : (u : List Want) (later most : ℕ) → later ≤ most → left_where u later (most + 1) ≤ most + 1
bounded [] later most below = omega arith
bounded (w ∷ ws) later most below = omega arith

left_bounded : (rows : Rows) (xs : List (List Want)) → left_of rows xs ≤ length xs
left_bounded rows [] = omega arith
left_bounded rows (x ∷ xs) = let most = bounded (unknown rows x) (left_of rows xs) (length xs) (left_bounded rows xs) in omega arith

-- the step that is asked leaves nothing of itself, and those before it have nothing left
steps_lower : (rows more : Rows) (w : Want) (ws : List Want) → AllByRecursion (IsKnown more) (w ∷ ws) → StaysKnown rows more →
    (xs ys : List (List Want)) → AreSteps rows xs ys → next_of rows xs ≡ w ∷ ws → left_of more ys < left_of rows xs
steps_lower rows more w ws all stays [] ys are is = absurd (cc)
steps_lower rows more w ws all stays (x ∷ xs) [] are is = absurd are
steps_lower rows more w ws all stays (x ∷ xs) (y ∷ ys) are is =
    at (unknown rows x) refl (λ none rest. steps_lower rows more w ws all stays xs ys (are.2 none) rest)
  where
    now : unknown more x ≡ [] → left_of more (y ∷ ys) ≡ left_of more ys
    now none = ap (λ s. left_where (unknown more s) (left_of more ys) (length ys + 1)) (sym are.0) ∙ ap (λ l. left_where l (left_of more ys) (length ys + 1)) none

    at : (u : List Want) → unknown rows x ≡ u → (unknown rows x ≡ [] → next_of rows xs ≡ w ∷ ws → left_of more ys < left_of rows xs) → left_of more (y ∷ ys) < left_of rows (x ∷ xs)
    at [] none on =
        let later = on none (sym (ap (λ l. or_next l (next_of rows xs)) none) ∙ is) in
        let here = now (none_left rows more x stays (subst (AllByRecursion (IsKnown more)) (sym none) tt)) in
        let there : left_of rows (x ∷ xs) ≡ left_of rows xs = ap (λ l. left_where l (left_of rows xs) (length xs + 1)) none in
        omega arith
    at (v ∷ vs) some on =
        let asked : unknown rows x ≡ w ∷ ws = some ∙ (sym (ap (λ l. or_next l (next_of rows xs)) some) ∙ is) in
        let here = now (none_left rows more x stays (subst (AllByRecursion (IsKnown more)) (sym asked) all)) in
        let there : left_of rows (x ∷ xs) ≡ length xs + 1 = ap (λ l. left_where l (left_of rows xs) (length xs + 1)) some in
        let below = left_bounded more ys in
        let same : length xs ≡ length ys = are.1 in
        omega arith

-- what is known of a branch stays known
links_grow : (rows more : Rows) (project branch : List ℕ) → StaysKnown rows more → IsPart (links_in rows project branch) (links_in more project branch)
links_grow rows more project branch stays = record {
  link = λ n l. by_change n l (known rows (want.Change n)) refl;
  standing = λ x s. by_commit x s (known rows (want.Standing (record { project = project; branch = branch; commit = x }))) refl;
}
  where
    by_change : (n : ℕ) (l : Link) (o : Option Found) → known rows (want.Change n) ≡ o → link_for project branch (change_in (known rows (want.Change n))) ≡ Some l →
        link_for project branch (change_in (known more (want.Change n))) ≡ Some l
    by_change n l None e is = absurd (let f : None ≡ Some l = sym (ap (λ k. link_for project branch (change_in k)) e) ∙ is in cc)
    by_change n l (Some f) e is = ap (λ k. link_for project branch (change_in k)) (stays (want.Change n) (ap is_some e)) ∙ is

    by_commit : (x : List ℕ) (s : Standing) (o : Option Found) → known rows (want.Standing (record { project = project; branch = branch; commit = x })) ≡ o →
        standing_of (known rows (want.Standing (record { project = project; branch = branch; commit = x }))) ≡ Some s → standing_of (known more (want.Standing (record { project = project; branch = branch; commit = x }))) ≡ Some s
    by_commit x s None e is = absurd (let f : None ≡ Some s = sym (ap standing_of e) ∙ is in cc)
    by_commit x s (Some f) e is = ap standing_of (stays (want.Standing (record { project = project; branch = branch; commit = x })) (ap is_some e)) ∙ is

-- where a commit was looked up, it is known what it is to the branch
pub commit_known : (rows : Rows) (project branch x : List ℕ) → IsKnown rows (want.Standing (record { project = project; branch = branch; commit = x })) → IsSome ((links_in rows project branch).standing x)
commit_known rows project branch x there = at (known rows (want.Standing (record { project = project; branch = branch; commit = x }))) there
  where
    at : (o : Option Found) → is_some o ≡ true → IsSome (standing_of o)
    at None e = absurd (let f : false ≡ true = e in cc)
    at (Some (Stands s)) e = refl
    at (Some f) e = refl

-- rows with those that know what was left of a list leave nothing of it
none_after : (rows more : Rows) (ws us : List Want) → StaysKnown rows more → unknown rows ws ≡ us → AllByRecursion (IsKnown more) us → unknown more ws ≡ []
none_after rows more ws us stays e all = none_left rows more ws stays (subst (AllByRecursion (IsKnown more)) (sym e) all)

-- what is asked for a chain is one look-up, of what is wanted
pub record IsLook (rows : Rows) (n : ℕ) (c : Change) (asked : List Want) : Type 0 where
  pub want : ChainWant
  pub wanted_is : wanted_for rows n c ≡ Some want
  pub unmade : unknown rows (look_up c.project c.branch want ∷ []) ≡ asked

look_of : (rows : Rows) (n : ℕ) (c : Change) (w : Want) (ws : List Want) → unknown rows (chain_wants rows n c) ≡ w ∷ ws → IsLook rows n c (w ∷ ws)
look_of rows n c w ws is = at (wanted_for rows n c) refl is
  where
    at : (o : Option ChainWant) → wanted_for rows n c ≡ o → unknown rows (option_to_list (option_map (look_up c.project c.branch) o)) ≡ w ∷ ws → IsLook rows n c (w ∷ ws)
    at None e f = absurd (let g : [] ≡ w ∷ ws = f in cc)
    at (Some want) e f = record { want = want; wanted_is = e; unmade = f }

-- only an open change that is ready wants something
open_wants : (rows : Rows) (n : ℕ) (c : Change) (want : ChainWant) → wanted_for rows n c ≡ Some want → (is_open c.state && not c.wip ≡ true) × (wanted (links_in rows c.project c.branch) n ≡ Some want)
open_wants rows n c want is = at (is_open c.state && not c.wip) refl is
  where
    at : (b : Bool) → is_open c.state && not c.wip ≡ b → cond b (wanted (links_in rows c.project c.branch) n) None ≡ Some want →
        (is_open c.state && not c.wip ≡ true) × (wanted (links_in rows c.project c.branch) n ≡ Some want)
    at true e f = (e, f)
    at false e f = absurd (let g : None ≡ Some want = f in cc)

-- a look-up for a chain lowers what is left of it
chain_lowers : (rows more : Rows) (n : ℕ) (c : Change) (w : Want) (ws : List Want) → StaysKnown rows more → AllByRecursion (IsKnown more) (w ∷ ws) → unknown rows (chain_wants rows n c) ≡ w ∷ ws →
    left_if (unknown more (chain_wants more n c)) (left_in_chain (links_in more c.project c.branch) n) < left_if (unknown rows (chain_wants rows n c)) (left_in_chain (links_in rows c.project c.branch) n)
chain_lowers rows more n c w ws stays all is = rw is (by_next (unknown more (chain_wants more n c)) refl)
  where
    before : Branch
    before = links_in rows c.project c.branch

    after : Branch
    after = links_in more c.project c.branch

    part : IsPart before after
    part = links_grow rows more c.project c.branch stays

    look : IsLook rows n c (w ∷ ws)
    look = look_of rows n c w ws is

    opened : (is_open c.state && not c.wip ≡ true) × (wanted before n ≡ Some look.want)
    opened = open_wants rows n c look.want look.wanted_is

    made : unknown more (look_up c.project c.branch look.want ∷ []) ≡ []
    made = none_after rows more (look_up c.project c.branch look.want ∷ []) (w ∷ ws) stays look.unmade all

    less : Knows after look.want → left_in_chain after n < left_in_chain before n
    less knows = let said = subst (Says before n) opened.1 (wanted_says before n) in fewer_left before after said.0 n look.want part said.1 knows

    now : wanted after n ≡ Some look.want → unknown more (chain_wants more n c) ≡ []
    now still = ap (λ o. unknown more (option_to_list (option_map (look_up c.project c.branch) o))) (ap (λ b. cond b (wanted after n) None) opened.0 ∙ still) ∙ made

    by_want : (want : ChainWant) → look.want ≡ want → (v : Want) (vs : List Want) → unknown more (chain_wants more n c) ≡ v ∷ vs → left_in_chain after n < left_in_chain before n
    by_want (TheCommit x) e v vs some =
        less (subst (Knows after) (sym e) (commit_known more c.project c.branch x (each_known more (look_up c.project c.branch (TheCommit x) ∷ []) (subst (λ u. unknown more (look_up c.project c.branch u ∷ []) ≡ []) e made)).0))
    by_want (TheChange d) e v vs some = by_link (after.link d) refl
      where
        by_link : (o : Option Link) → after.link d ≡ o → left_in_chain after n < left_in_chain before n
        by_link None none =
            let still = still_wanted before after n d part (opened.1 ∙ ap Some e) none in
            absurd (let f : [] ≡ v ∷ vs = sym (now (still ∙ ap Some (sym e))) ∙ some in cc)
        by_link (Some l) there = less (subst (Knows after) (sym e) (subst IsSome (sym there) refl))

    by_next : (us : List Want) → unknown more (chain_wants more n c) ≡ us → left_if us (left_in_chain after n) < left_in_chain before n + 1
    by_next [] none = omega arith
    by_next (v ∷ vs) some = let fewer = by_want look.want refl v vs some in omega arith

-- what is asked last is asked for a submit
last_lowers : (rows more : Rows) (topic : Topic) (w : Want) (ws : List Want) → StaysKnown rows more → AllByRecursion (IsKnown more) (w ∷ ws) →
    ((n : ℕ) → topic ≡ OfCommand (Submit n) → IsKnown rows (want.Change n)) → last_wants rows topic ≡ w ∷ ws → left_if (last_wants more topic) (last_of more topic) < left_if (last_wants rows topic) (last_of rows topic)
last_lowers rows more (OfCommand (Submit n)) w ws stays all there is =
    rw (ap change_in (stays (want.Change n) (there n refl))) (by_change (change_in (known rows (want.Change n))) is)
  where
    by_change : (o : Option Change) → unknown rows (wants_by (chain_wants rows n) o) ≡ w ∷ ws →
        left_if (unknown more (wants_by (chain_wants more n) o)) (chain_left more n o) < left_if (unknown rows (wants_by (chain_wants rows n) o)) (chain_left rows n o)
    by_change None f = absurd (let g : [] ≡ w ∷ ws = f in cc)
    by_change (Some c) f = chain_lowers rows more n c w ws stays all f
last_lowers rows more _ w ws stays all there is = absurd (let f : [] ≡ w ∷ ws = is in cc)

-- where nothing is left of the steps, no step is left, in what is known later too
none_stays : (rows more : Rows) → StaysKnown rows more → (xs ys : List (List Want)) → AreSteps rows xs ys → next_of rows xs ≡ [] → (left_of rows xs ≡ 0) × (left_of more ys ≡ 0)
none_stays rows more stays [] [] are none = (refl, refl)
none_stays rows more stays [] (y ∷ ys) are none = absurd are
none_stays rows more stays (x ∷ xs) [] are none = absurd are
none_stays rows more stays (x ∷ xs) (y ∷ ys) are none =
    let p = none_in (unknown rows x) (next_of rows xs) none in
    let later = none_stays rows more stays xs ys (are.2 p.0) p.1 in
    let here = none_left rows more x stays (subst (AllByRecursion (IsKnown more)) (sym p.0) tt) in (
      ap (λ l. left_where l (left_of rows xs) (length xs + 1)) p.0 ∙ later.0,
      ap (λ s. left_where (unknown more s) (left_of more ys) (length ys + 1)) (sym are.0) ∙ (ap (λ l. left_where l (left_of more ys) (length ys + 1)) here ∙ later.1),
    )

last_bounded : (rows : Rows) (topic : Topic) → left_if (last_wants rows topic) (last_of rows topic) ≤ 201
last_bounded rows topic = at (last_wants rows topic) (last_of rows topic) (by_topic topic)
  where
    at : (ws : List Want) (more : ℕ) → more ≤ 200 → left_if ws more ≤ 201
    at [] more below = omega arith
    at (w ∷ ws) more below = omega arith

    by_change : (n : ℕ) (o : Option Change) → chain_left rows n o ≤ 200
    by_change n None = omega arith
    by_change n (Some c) = most_left (links_in rows c.project c.branch) n

    by_topic : (t : Topic) → last_of rows t ≤ 200
    by_topic (OfCommand (Submit n)) = by_change n (change_in (known rows (want.Change n)))
    by_topic _ = omega arith

before_less : (a b last later : ℕ) → a < b → last ≤ 201 → left_before a last < left_before b later
before_less a zero last later less below = absurd (omega arith)
before_less zero (suc b) last later less below = omega arith
before_less (suc a) (suc b) last later less below = omega arith

-- the file of a project that is known stays, and its parent
own_stays : (rows more : Rows) (project : List ℕ) → StaysKnown rows more → IsKnown rows (want.File project) → own_in more project ≡ own_in rows project
own_stays rows more project stays there = ap file_in (stays (want.File project) there)

parent_stays : (rows more : Rows) (project : List ℕ) → StaysKnown rows more → IsKnown rows (want.File project) → known_parent more project ≡ known_parent rows project
parent_stays rows more project stays there = ap (option_and_then (λ f. f.parent)) (own_stays rows more project stays there)

-- the next one of a line stays, once its file is known
above_stays : (rows more : Rows) (p : Option (List ℕ)) → StaysKnown rows more → unknown rows (line_wants p) ≡ [] → option_and_then (known_parent more) p ≡ option_and_then (known_parent rows) p
above_stays rows more None stays none = refl
above_stays rows more (Some project) stays none = parent_stays rows more project stays (each_known rows (want.File project ∷ []) none).0

-- as many steps ask for a line, whatever is known of it
line_length : (rows more : Rows) (n : ℕ) (p q : Option (List ℕ)) (x : List Want) → length (line_steps rows n p ++ x ∷ []) ≡ length (line_steps more n q ++ x ∷ [])
line_length rows more zero p q x = refl
line_length rows more (suc n) p q x = let same = line_length rows more n (option_and_then (known_parent rows) p) (option_and_then (known_parent more) q) x in omega arith

line_stays : (rows more : Rows) (n : ℕ) (p : Option (List ℕ)) (x : List Want) → StaysKnown rows more → AreSteps rows (line_steps rows n p ++ x ∷ []) (line_steps more n p ++ x ∷ [])
line_stays rows more zero p x stays = (refl, refl, λ none. tt)
line_stays rows more (suc n) p x stays = (
  refl,
  line_length rows more n (option_and_then (known_parent rows) p) (option_and_then (known_parent more) p) x,
  λ none.
      subst (λ q. AreSteps rows (line_steps rows n (option_and_then (known_parent rows) p) ++ x ∷ []) (line_steps more n q ++ x ∷ [])) (sym (above_stays rows more p stays none))
      (line_stays rows more n (option_and_then (known_parent rows) p) x stays),
)

-- the parent of a project that is judged by stays, where the project's file is known
judged_stays : (rows more : Rows) (is : Bool) (o : Option Change) → StaysKnown rows more → ((c : Change) → o ≡ Some c → is ≡ true → IsKnown rows (want.File c.project)) →
    option_and_then (known_parent more) (project_for is o) ≡ option_and_then (known_parent rows) (project_for is o)
judged_stays rows more false o stays there = refl
judged_stays rows more true None stays there = refl
judged_stays rows more true (Some c) stays there = parent_stays rows more c.project stays (there c refl refl)

given_asked : (rows : Rows) (labels : List Given) (project : List ℕ) → AllByRecursion (IsKnown rows) (given_wants labels project) → has_some labels ≡ true → IsKnown rows (want.File project)
given_asked rows [] project all some = absurd (let none : false ≡ true = some in cc)
given_asked rows (g ∷ gs) project all some = all.0

-- a request that is judged by the project's file asks for it
pub judged_asked : (rows : Rows) (command : ChangeCommand) (c : Change) → AllByRecursion (IsKnown rows) (request_wants command c) → needs_file command ≡ true → IsKnown rows (want.File c.project)
judged_asked rows (on.Review review) c all is = given_asked rows review.labels c.project all is
judged_asked rows (on.Upload patch) c all is = all.0
judged_asked rows on.Abandon c all is = all.0
judged_asked rows on.Restore c all is = all.0
judged_asked rows _ c all is = absurd (let none : false ≡ true = is in cc)

answered_asked : (rows : Rows) (query : ChangeQuery) (c : Change) → AllByRecursion (IsKnown rows) (question_wants query c) → asks_file query ≡ true → IsKnown rows (want.File c.project)
answered_asked rows shown.Requirements c all is = all.0
answered_asked rows _ c all is = absurd (let none : false ≡ true = is in cc)

-- what is asked by a change that is found
by_found : (rows : Rows) (each : Change → List Want) (o : Option Change) (c : Change) → o ≡ Some c → AllByRecursion (IsKnown rows) (wants_by each o) → AllByRecursion (IsKnown rows) (each c)
by_found rows each o c is all = subst (λ x. AllByRecursion (IsKnown rows) (wants_by each x)) is all

-- the first parent that is asked for stays, once all is known that is asked before
parents_stay : (rows more : Rows) (caller : ℕ) (topic : Topic) → StaysKnown rows more → unknown rows (first_wants caller topic) ≡ [] → unknown rows (change_wants rows topic) ≡ [] →
    parent_of more topic ≡ parent_of rows topic
parents_stay rows more caller (OfQuery (asked.OnChange n query)) stays first then =
    let found = change_in (known rows (want.Change n)) in
    ap (λ k. option_and_then (known_parent more) (project_for (asks_file query) (change_in k))) (stays (want.Change n) (each_known rows (first_wants caller (OfQuery (asked.OnChange n query))) first).1.0)
    ∙ judged_stays rows more (asks_file query) found stays
    (λ c is judged. answered_asked rows query c (by_found rows (question_wants query) found c is (each_known rows (change_wants rows (OfQuery (asked.OnChange n query))) then)) judged)
parents_stay rows more caller (OfCommand (PutProject project text)) stays first then =
    ap (parent_or (named_parent text)) (own_stays rows more project stays (each_known rows (first_wants caller (OfCommand (PutProject project text))) first).1.1.1.0)
parents_stay rows more caller (OfCommand (CreateChange new)) stays first then =
    parent_stays rows more new.project stays (each_known rows (first_wants caller (OfCommand (CreateChange new))) first).1.1.1.1.0
parents_stay rows more caller (OfCommand (OnChange n command)) stays first then =
    let found = change_in (known rows (want.Change n)) in
    ap (λ k. option_and_then (known_parent more) (project_for (needs_file command) (change_in k))) (stays (want.Change n) (beside_caller rows caller (OnChange n command) (each_known rows (first_wants caller (OfCommand (OnChange n command))) first)).0)
    ∙ judged_stays rows more (needs_file command) found stays
    (λ c is judged. judged_asked rows command c (by_found rows (request_wants command) found c is (each_known rows (change_wants rows (OfCommand (OnChange n command))) then)) judged)
parents_stay rows more caller (OfCommand (Submit n)) stays first then =
    let found = change_in (known rows (want.Change n)) in
    ap (λ k. option_and_then (known_parent more) (project_for true (change_in k))) (stays (want.Change n) (submit_known rows caller n first))
    ∙ judged_stays rows more true found stays
    (λ c is judged. (by_found rows submit_wants found c is (each_known rows (change_wants rows (OfCommand (Submit n))) then)).0)
parents_stay rows more caller _ stays first then = refl

-- a step asks the same where more is known, once those before it were made
steps_stay : (file : Option File) (rows more : Rows) (caller : ℕ) (topic : Topic) → StaysKnown rows more → AreSteps rows (steps file rows caller topic) (steps file more caller topic)
steps_stay file rows more caller topic stays = (
  refl,
  let same = line_length rows more most_depth (parent_of rows topic) (parent_of more topic) (file_wants file caller topic) in omega arith,
  λ none. (
    sym (same_wants rows more caller topic stays none),
    line_length rows more most_depth (parent_of rows topic) (parent_of more topic) (file_wants file caller topic),
    λ made.
        subst (λ p. AreSteps rows (line_steps rows most_depth (parent_of rows topic) ++ file_wants file caller topic ∷ []) (line_steps more most_depth p ++ file_wants file caller topic ∷ []))
        (sym (parents_stay rows more caller topic stays none made)) (line_stays rows more most_depth (parent_of rows topic) (file_wants file caller topic) stays),
  ),
)

-- each step asks for what was not known, and lowers what is left
pub asking_lowers : AskingLowers
asking_lowers file rows more caller topic w ws is all stays = at (next_of rows (steps file rows caller topic)) refl
  where
    made : AllByRecursion (IsKnown more) (w ∷ ws)
    made = by_recursion (IsKnown more) (w ∷ ws) all

    are : AreSteps rows (steps file rows caller topic) (steps file more caller topic)
    are = steps_stay file rows more caller topic stays

    at : (us : List Want) → next_of rows (steps file rows caller topic) ≡ us → left file more caller topic < left file rows caller topic
    at [] none =
        let zeros = none_stays rows more stays (steps file rows caller topic) (steps file more caller topic) are none in
        let firsts = (none_of_steps rows (steps file rows caller topic) none).0 in
        let last : last_wants rows topic ≡ w ∷ ws = sym (ap (λ l. or_next l (last_wants rows topic)) none) ∙ is in
        rw (zeros.0, zeros.1) (last_lowers rows more topic w ws stays made (λ n e. submit_known rows caller n (subst (λ t. unknown rows (first_wants caller t) ≡ []) e firsts)) last)
    at (v ∷ vs) some =
        let asked : next_of rows (steps file rows caller topic) ≡ w ∷ ws = some ∙ (sym (ap (λ l. or_next l (last_wants rows topic)) some) ∙ is) in
        let fewer = steps_lower rows more w ws made stays (steps file rows caller topic) (steps file more caller topic) are asked in
        before_less (left_of more (steps file more caller topic)) (left_of rows (steps file rows caller topic)) (left_if (last_wants more topic) (last_of more topic)) (left_if (last_wants rows topic) (last_of rows topic)) fewer
        (last_bounded more topic)

unasked : (rows : Rows) (w : Want) → known rows w ≡ None → IsKnown rows w → ⊥
unasked rows w none there = let e : false ≡ true = sym (ap is_some none) ∙ there in absurd (cc)

-- rows that know nothing have something to ask
pub asks_first : (file : Option File) (rows : Rows) (caller : ℕ) (topic : Topic) → ((w : Want) → known rows w ≡ None) → next file rows caller topic ≡ [] → ⊥
asks_first file rows caller (OfCommand command) nothing none = unasked rows want.Requests (nothing want.Requests) (all_asked file rows caller (OfCommand command) none).0
asks_first file rows caller (OfQuery (asked.Branch project branch)) nothing none =
    unasked rows (want.Account caller) (nothing (want.Account caller)) (all_asked file rows caller (OfQuery (asked.Branch project branch)) none).0
asks_first file rows caller (OfQuery (asked.OnChange change query)) nothing none =
    unasked rows (want.Account caller) (nothing (want.Account caller)) (all_asked file rows caller (OfQuery (asked.OnChange change query)) none).0

-- how many requests tables have, as rows say that agree and have nothing left to ask
pub requests_are : (t : Tables) (file : Option File) (rows : Rows) (caller : ℕ) (command : Command) → Agrees t rows → next file rows caller (OfCommand command) ≡ [] → number_of (known rows want.Requests) ≡ t.requests
requests_are t file rows caller command agree none =
    let r = found_of t rows want.Requests agree (all_asked file rows caller (OfCommand command) none).0 in
    let x = r.2 in
    ap number_of (r.1 ∙ ap Some x.1) ∙ x.2

-- the least open epoch that tables have, as rows say that know what a CloseEpoch asks
pub least_epoch_is : (t : Tables) (file : Option File) (rows : Rows) (caller least : ℕ) → Agrees t rows → next file rows caller (OfCommand (CloseEpoch least)) ≡ [] → number_of (known rows want.LeastEpoch) ≡ t.count ClosedEpochs
least_epoch_is t file rows caller least agree none =
    let r = found_of t rows want.LeastEpoch agree (all_asked file rows caller (OfCommand (CloseEpoch least)) none).1.1.1.0 in
    let x = r.2 in
    ap number_of (r.1 ∙ ap Some x.1) ∙ x.2

-- where nothing is left of the steps, nothing is left of them in what is known later
none_left_later : (rows more : Rows) → StaysKnown rows more → (xs ys : List (List Want)) → AreSteps rows xs ys → next_of rows xs ≡ [] → next_of more ys ≡ []
none_left_later rows more stays [] [] are none = refl
none_left_later rows more stays [] (y ∷ ys) are none = absurd are
none_left_later rows more stays (x ∷ xs) [] are none = absurd are
none_left_later rows more stays (x ∷ xs) (y ∷ ys) are none =
    let p = none_in (unknown rows x) (next_of rows xs) none in
    let later = none_left_later rows more stays xs ys (are.2 p.0) p.1 in
    let here = none_left rows more x stays (subst (AllByRecursion (IsKnown more)) (sym p.0) tt) in
    ap (λ s. or_next (unknown more s) (next_of more ys)) (sym are.0) ∙ (ap (λ l. or_next l (next_of more ys)) here ∙ later)

-- a walk stays one where more is known
walk_stays : (rows more : Rows) (n : ℕ) (w : Walked) → StaysKnown rows more → IsKnown rows (want.Change n) → IsWalkTo rows n w → IsWalkTo more n w
walk_stays rows more n w stays there h = record {
  change_is = h.change_is;
  change = h.change;
  found = ap change_in (stays (want.Change n) there) ∙ h.found;
  is_ready = h.is_ready;
  walks = walked_kept (links_in rows h.change.project h.change.branch) (links_in more h.change.project h.change.branch) (links_grow rows more h.change.project h.change.branch stays) w h.walks;
}

-- nothing is left of a line where nothing was left of it before
line_left : (rows more : Rows) (n : ℕ) (p : Option (List ℕ)) → StaysKnown rows more → next_of rows (line_steps rows n p) ≡ [] → next_of more (line_steps more n p) ≡ []
line_left rows more zero p stays none = refl
line_left rows more (suc n) p stays none =
    let q = none_in (unknown rows (line_wants p)) (next_of rows (line_steps rows n (option_and_then (known_parent rows) p))) none in
    let later = line_left rows more n (option_and_then (known_parent rows) p) stays q.1 in
    let here = none_after rows more (line_wants p) [] stays q.0 tt in
    ap (λ o. or_next (unknown more (line_wants p)) (next_of more (line_steps more n o))) (above_stays rows more p stays q.0) ∙ (ap (λ l. or_next l (next_of more (line_steps more n (option_and_then (known_parent rows) p)))) here ∙ later)

-- what was asked of some look-ups that stay the same leaves nothing of them
left_after : (rows more : Rows) (ws now us : List Want) → StaysKnown rows more → now ≡ ws → unknown rows ws ≡ us → All (IsKnown more) us → unknown more now ≡ []
left_after rows more ws now us stays same is all = ap (unknown more) same ∙ none_after rows more ws us stays is (by_recursion (IsKnown more) us all)

-- the same, where nothing was left of them
left_none : (rows more : Rows) (ws now : List Want) → StaysKnown rows more → now ≡ ws → unknown rows ws ≡ [] → unknown more now ≡ []
left_none rows more ws now stays same none = ap (unknown more) same ∙ none_after rows more ws [] stays none tt

may_stay : (rows more : Rows) (caller : ℕ) (topic : Topic) (o : Option Walked) → StaysKnown rows more → unknown rows (first_wants caller topic) ≡ [] → MayGoOnFor rows topic o → MayGoOnFor more topic o
may_stay rows more caller topic None stays first h = tt
may_stay rows more caller topic (Some w) stays first h =
    (h.0, walk_stays rows more w.change w stays (submit_known rows caller w.change (subst (λ t. unknown rows (first_wants caller t) ≡ []) h.0 first)) h.1)

-- where asking has come to, it has come to where more is known
pub come_stays : (file : Option File) (rows more : Rows) (caller : ℕ) (topic : Topic) (s : Step) → StaysKnown rows more → HasComeTo file rows caller topic s → HasComeTo file more caller topic s
come_stays file rows more caller topic step.First stays h = tt
come_stays file rows more caller topic step.ByChange stays h = left_none rows more (first_wants caller topic) (first_wants caller topic) stays refl h
come_stays file rows more caller topic step.Above stays h =
    (left_none rows more (first_wants caller topic) (first_wants caller topic) stays refl h.0, left_none rows more (change_wants rows topic) (change_wants more topic) stays (same_wants rows more caller topic stays h.0) h.1)
come_stays file rows more caller topic step.ByFile stays h = (
  left_none rows more (first_wants caller topic) (first_wants caller topic) stays refl h.0,
  left_none rows more (change_wants rows topic) (change_wants more topic) stays (same_wants rows more caller topic stays h.0) h.1,
  ap (λ p. next_of more (line_steps more most_depth p)) (parents_stay rows more caller topic stays h.0 h.1) ∙ line_left rows more most_depth (parent_of rows topic) stays h.2,
)
come_stays file rows more caller topic (step.Last w) stays h = (
  none_left_later rows more stays (steps file rows caller topic) (steps file more caller topic) (steps_stay file rows more caller topic stays) h.0,
  may_stay rows more caller topic w stays (none_of_steps rows (steps file rows caller topic) h.0).0 h.1,
)

-- where the look-ups of the first step are made, asking has come to what is asked by the change
pub first_comes : (file : Option File) (rows : Rows) (caller : ℕ) (topic : Topic) (ws : List Want) → unknown rows (first_wants caller topic) ≡ ws → ComesTo file rows caller topic ws step.ByChange
first_comes file rows caller topic ws is = λ more all stays. left_after rows more (first_wants caller topic) (first_wants caller topic) ws stays refl is all

-- where those are made too that are asked by the change, it has come to the ancestors
pub change_comes : (file : Option File) (rows : Rows) (caller : ℕ) (topic : Topic) (ws : List Want) → HasComeTo file rows caller topic step.ByChange → unknown rows (change_wants rows topic) ≡ ws →
    ComesTo file rows caller topic ws step.Above
change_comes file rows caller topic ws h is = λ more all stays.
    (come_stays file rows more caller topic step.ByChange stays h, left_after rows more (change_wants rows topic) (change_wants more topic) ws stays (same_wants rows more caller topic stays h) is all)

-- the last of some steps
pub last_joins : (rows : Rows) (xs : List (List Want)) (x : List Want) → next_of rows xs ≡ [] → next_of rows (xs ++ x ∷ []) ≡ or_next (unknown rows x) []
last_joins rows [] x none = refl
last_joins rows (y ∷ ys) x none =
    let p = none_in (unknown rows y) (next_of rows ys) none in
    ap (λ l. or_next l (next_of rows (ys ++ x ∷ []))) p.0 ∙ last_joins rows ys x p.1

-- the steps that have nothing left before what is asked by the file
pub to_file : (file : Option File) (rows : Rows) (caller : ℕ) (topic : Topic) → HasComeTo file rows caller topic step.ByFile → next_of rows (steps file rows caller topic) ≡ or_next (unknown rows (file_wants file caller topic)) []
to_file file rows caller topic h =
    let line = line_steps rows most_depth (parent_of rows topic) in
    let rest = next_of rows (line ++ file_wants file caller topic ∷ []) in
    ap (λ l. or_next l (or_next (unknown rows (change_wants rows topic)) rest)) h.0 ∙ (ap (λ l. or_next l rest) h.1 ∙ last_joins rows line (file_wants file caller topic) h.2)

-- and where those are made that are asked by the file, it has come to the last
pub file_comes : (file : Option File) (rows : Rows) (caller : ℕ) (topic : Topic) (ws : List Want) → HasComeTo file rows caller topic step.ByFile → unknown rows (file_wants file caller topic) ≡ ws →
    ComesTo file rows caller topic ws (step.Last None)
file_comes file rows caller topic ws h is = λ more all stays. (
  to_file file more caller topic (come_stays file rows more caller topic step.ByFile stays h) ∙ ap (λ l. or_next l []) (left_after rows more (file_wants file caller topic) (file_wants file caller topic) ws stays refl is all),
  tt,
)
