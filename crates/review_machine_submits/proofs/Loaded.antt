-- What loaded rows tell for a question, and its answer.
use Rattle.std.proofs.Common.{◌≡◌, ◌⊎◌, ℕ, List, [], ◌∷◌, Option, Some, None, true, false, refl, sym, ap, ◌∙◌, subst, ⊎_elim, is_some, option_and_then, ◌≤◌, arith, length, Bool, cond, map, nat_le, ◌++◌, not, nat_cmp, find, flat_map, option_map, if◌then◌else◌, bytes_eq, ℤ, ◌&&◌, ◌==◌, eqb-true, slice_get, ◌-◌, filter}
use Rattle.std.{proofs.lemmas.Map.Entries.option_filter, specs.List.Sorted.IsStrictlySortedBy}
use Rattle.review_names.specs.Forms.{is_within, most_patches}
use Rattle.review_table.specs.Rows.{row_in, rows_of}
use Rattle.review_words.specs.History.{Entry, is_project, is_account, is_branch, bases}
use Rattle.review_words.specs.declared.changes.Role.TheVariants.{Reviewer, Cc}
use Rattle.review_words.specs.declared.command.ChangeQuery.{ChangeQuery, TheVariants.Requirements}
use Rattle.review_words.specs.declared.command.Query.TheVariants.{OnChange}
use Rattle.review_words.specs.declared.reply.NotTaken.{NotTaken as Cause, TheVariants.Damaged, TheVariants.Memory}
use Rattle.review_words.specs.declared.reply.Refusal.TheVariants.{UnknownCaller, NoProject, NoBranch, NoChange}
use Rattle.review_words.specs.declared.shown.{ShownRequirement.ShownRequirement, ShownVote.ShownVote}
use Rattle.review_words.specs.declared.shown.Status.TheVariants.{NotApplicable, Overridden, Satisfied, Unsatisfied}
use Rattle.review_expr_judging.specs.{Holds.holds, Holds.requirement_holds, declared.facts.ChangeFacts.ChangeFacts}
use Rattle.{review_expr_judging.specs.declared.facts.ValueRange.ValueRange, review_expr.specs.Exprs.holds_for}
use Rattle.review_file_rules.specs.Named.{SameIn, SameInAll, groups_in, groups_of_requirement, required_groups}
use Rattle.review_file_rules.specs.Rights.{greatest_value, least_value}
use Rattle.review_file_rules.specs.Trees.{file_trees, ExprTree, OfCopy, OfRequirement, label_trees, requirement_trees, tree_of}
use Rattle.review_file_rules.specs.View.{LabelView, RequirementView}
use Rattle.review_core_rules.specs.Change.{Change, label_in, range_of, current, last_uploader, of_number}
use Rattle.review_core_rules.specs.Facts.{AreStanding, stands, unless_zero}
use Rattle.review_core_rules.specs.{Listed.AreListed, Listed.AreThose, Seen.seen, Seen.value_of, Seen.vote_cmp}
use Rattle.review_core_rules.specs.Shown.{AreVotes, shown_vote, IsToldOf}
use Rattle.review_core_tables.proofs.{Accounts.accounts_tell, Accounts.has_row, Copied.vote_key, Copied.votes_tell}
use Rattle.review_machine_rows.proofs.Asked.{all_asked, change_asked, found_of, line_asked, file_asked}
use Rattle.review_machine_rows.proofs.Common.{AllByRecursion, Answer, ChangeRows, Done, Expr, File, GroupList, IsSound, PatchRow, Refusal, Refused, Role, VoteKey, keys_of, nat_tests, option_map_or, voted, within_parts}
use Rattle.review_machine_rows.proofs.Lined.{texts_told}
use Rattle.review_machine_rows.specs.Answer.{IsHistory, has_role, IsOf, first_refusal}
use Rattle.review_machine_rows.specs.Changes.{Reading, change, file_of, texts_of, joined, groups_of, setting_of}
use Rattle.review_machine_rows.specs.Decisions.{IsUnshown}
use Rattle.review_machine_rows.specs.Known.{IsKnown, change_in, known, is_so, commits_of, joined_of}
use Rattle.review_machine_rows.specs.Lines.{most_depth}
use Rattle.review_machine_rows.specs.Questions.{joined_change, query_refused_by, IsQueryAnswerBy}
use Rattle.review_machine_rows.specs.Steps.{HasFile, OfQuery, line_steps, known_parent, project_for, question_wants, texts_in, unknown, wants_by}
use Rattle.review_machine_rows.specs.{View.AreEnough, View.view, declared.rows.Rows.Rows}
use Rattle.review_core_standing.proofs.Made.{value_kept, some_where, order_kept, row_kept}
use Rattle.review_machine_laws.proofs.Checked.{lacks_project, same_trees, split_all}
use Rattle.review_machine_laws.proofs.{Histories.OneEffective, Rows.rows_tell, Rows.joined_rows}
use Rattle.review_machine_laws.proofs.SoundProjects.{has_project}
use Rattle.review_machine_laws.proofs.Told.{project_told, bases_told, Agree, refused_question, told_question}
use Rattle.review_machine_changes.proofs.{Requested.same_in_all, Told.ChangesAreSound}
use Rattle.review_machine_submits.specs.inner.Told.{LacksFile, setting_by, is_on, IsToldBy}
use Rattle.review_words.specs.declared.command.Query.TheVariants as asked
use Rattle.review_machine_rows.specs.declared.rows.Want.TheVariants as want
use Rattle.review_expr.specs.declared.expr.Expr.TheVariants as expr
use Rattle.review_expr.specs.declared.expr.Facts.TheVariants as facts

-- ==== what the rows of a question about a change tell of the history

-- the change that rows know is that of the history
pub change_told : (reading : Reading) (h : List Entry) (caller n : ℕ) (query : ChangeQuery) (effective : Option File) (rows : Rows) → AreEnough reading h caller (OfQuery (asked.OnChange n query)) effective rows →
    change_in (known rows (want.Change n)) ≡ change reading h n
change_told reading h caller n query effective rows l =
    let r = found_of (view reading h) rows (want.Change n) l.agree (all_asked effective rows caller (OfQuery (asked.OnChange n query)) l.nothing_left).1.0 in
    ap change_in (r.1 ∙ ap Some r.2.1) ∙ rows_tell r.2.0 (change reading h n) (λ part. sym (r.2.2 part))

-- the file that was read is that of the change's project
pub has_file : (reading : Reading) (h : List Entry) (caller n : ℕ) (effective : Option File) (rows : Rows) (c : Change) → change_in (known rows (want.Change n)) ≡ Some c → AreEnough reading h caller (OfQuery (asked.OnChange n Requirements)) effective rows →
    HasFile (texts_of h c.project) effective
has_file reading h caller n effective rows c found l =
    let there : IsKnown rows (want.File c.project) =
    (subst (AllByRecursion (IsKnown rows)) (ap (wants_by (question_wants Requirements)) found) (change_asked effective rows caller (OfQuery (asked.OnChange n Requirements)) l.nothing_left)).0 in
    let start : project_for true (change_in (known rows (want.Change n))) ≡ Some c.project = ap (project_for true) found in
    let line = line_asked effective rows caller (OfQuery (asked.OnChange n Requirements)) l.nothing_left in
    subst (λ t. HasFile t effective)
    (ap (texts_in rows) start
    ∙ texts_told reading h rows l.agree c.project there (subst (λ o. AllByRecursion (λ s. unknown rows s ≡ []) (line_steps rows most_depth (option_and_then (known_parent rows) o))) start line)) l.file_is

-- no change of a history is of a project without a file
lacks_file : (caller n : ℕ) (query : ChangeQuery) (effective : Option File) (rows : Rows) (c : Change) → change_in (known rows (want.Change n)) ≡ Some c → LacksFile effective query →
    (reading : Reading) (h : List Entry) → IsHistory h → AreEnough reading h caller (OfQuery (asked.OnChange n query)) effective rows → ⊥
lacks_file caller n Requirements None rows c found lacks reading h history l =
    let none = lacks_project h c.project (has_file reading h caller n None rows c found l) in
    let some = has_project reading h n c history l.reads (sym (change_told reading h caller n Requirements None rows l) ∙ found) in
    let bad : false ≡ true = sym none ∙ some in
    absurd (cc)
lacks_file caller n Requirements (Some f) rows c found lacks reading h history l = lacks
lacks_file caller n _ (Some f) rows c found lacks reading h history l = lacks
lacks_file caller n _ None rows c found lacks reading h history l = lacks

-- no rows of a history show a change that isn't sound, or whose project has no file
pub untold : ChangesAreSound → (caller n : ℕ) (query : ChangeQuery) (effective : Option File) (rows : Rows) (c : Change) (e : Cause) → change_in (known rows (want.Change n)) ≡ Some c →
    (e ≡ Memory) ⊎ ((e ≡ Damaged) × ((IsSound c → ⊥) ⊎ LacksFile effective query)) → IsUnshown caller (asked.OnChange n query) effective rows e
untold law caller n query effective rows c e found =
    ⊎_elim (λ m. subst (λ x. IsUnshown caller (asked.OnChange n query) effective rows x) (sym m) tt)
    (λ d. subst (λ x. IsUnshown caller (asked.OnChange n query) effective rows x) (sym d.0)
    (λ reading h history l. ⊎_elim (λ (unsound : IsSound c → ⊥). unsound (law reading h n c history l.reads (sym (change_told reading h caller n query effective rows l) ∙ found)))
    (λ (lacks : LacksFile effective query). lacks_file caller n query effective rows c found lacks reading h history l) d.1))

-- ==== what the loaded rows tell of the history, for a question about a branch

-- whether the project is there
pub project_asked : {reading : Reading} {file : Option File} (h : List Entry) (caller : ℕ) (project branch : List ℕ) (rows : Rows) → AreEnough reading h caller (OfQuery (asked.Branch project branch)) file rows →
    is_so (known rows (want.Project project)) ≡ is_project h project
project_asked {reading = reading} h caller project branch rows l = project_told reading h rows project l.agree (all_asked _ rows caller (OfQuery (asked.Branch project branch)) l.nothing_left).1.0

-- the bases of the branch
pub bases_asked : {reading : Reading} {file : Option File} (h : List Entry) (caller : ℕ) (project branch : List ℕ) (rows : Rows) → AreEnough reading h caller (OfQuery (asked.Branch project branch)) file rows →
    commits_of (known rows (want.Bases (record { project = project; branch = branch }))) ≡ bases h project branch
bases_asked {reading = reading} h caller project branch rows l =
    bases_told reading h rows (record { project = project; branch = branch }) l.agree (all_asked _ rows caller (OfQuery (asked.Branch project branch)) l.nothing_left).1.1.0

-- the changes that joined the branch
pub joined_asked : {reading : Reading} {file : Option File} (h : List Entry) (caller : ℕ) (project branch : List ℕ) (rows : Rows) → IsHistory h → AreEnough reading h caller (OfQuery (asked.Branch project branch)) file rows →
    joined_of (known rows (want.Joined (record { project = project; branch = branch }))) ≡ map (joined_change reading h) (joined h project branch)
joined_asked {reading = reading} h caller project branch rows history l =
    let r = found_of (view reading h) rows (want.Joined (record { project = project; branch = branch })) l.agree (all_asked _ rows caller (OfQuery (asked.Branch project branch)) l.nothing_left).1.1.1.0 in
    ap joined_of (r.1 ∙ ap Some r.2.1) ∙ joined_rows reading h (record { project = project; branch = branch }) r.2.0 history l.reads r.2.2

-- whether a branch has bases
pub none_there : (bs : List (List ℕ)) → bs ≡ [] → nat_le 1 (length bs) ≡ false
none_there [] is = refl
none_there (b ∷ bs) is = absurd (cc)

pub some_there : (bs : List (List ℕ)) → (bs ≡ [] → ⊥) → nat_le 1 (length bs) ≡ true
some_there [] is = absurd (is refl)
some_there (b ∷ bs) is = some (length (b ∷ bs)) (omega arith)
  where
    some : (n : ℕ) → 1 ≤ n → nat_le 1 n ≡ true
    some n le = grind (arith, nat_tests)

abbrev branch_refusal : Bool → Bool → Bool → Option Refusal
branch_refusal a b c = cond a (cond b (cond c None (Some NoBranch)) (Some NoProject)) (Some UnknownCaller)

-- what refuses the question, by its checks
pub branch_refused : (reading : Reading) (h : List Entry) (caller : ℕ) (project branch : List ℕ) (a b c : Bool) → is_account h caller ≡ a → is_project h project ≡ b → is_branch h project branch ≡ c →
    query_refused_by reading h caller (asked.Branch project branch) ≡ branch_refusal a b c
branch_refused reading h caller project branch a b c p q r = λ i. branch_refusal (p i) (q i) (r i)

-- ==== how requirements stand by the file that was read and the groups that were loaded

-- who is in the groups that an expression names decides whether it holds for a change
abbrev pub GroupsSuffice : Type 0
GroupsSuffice = (e : Expr) (f : ChangeFacts) (other : GroupList) → SameInAll f.groups other (groups_in e) → holds_for (facts.Change f) e ≡ holds_for (facts.Change (record f { groups = other })) e

-- ---- the groups

option_alike : GroupsSuffice → (o : Option Expr) (d : Bool) (f : ChangeFacts) (other : GroupList) → SameInAll f.groups other (option_map_or groups_in o []) →
    option_map_or (holds_for (facts.Change f)) o d ≡ option_map_or (holds_for (facts.Change (record f { groups = other }))) o d
option_alike law None d f other same = refl
option_alike law (Some e) d f other same = law e f other same

-- a requirement stands alike, whatever other groups there are
stands_alike : GroupsSuffice → (q : RequirementView Expr) (f : ChangeFacts) (other : GroupList) → SameInAll f.groups other (groups_of_requirement q) → stands f q ≡ stands (record f { groups = other }) q
stands_alike law q f other same =
    let first = split_all (SameIn f.groups other) (option_map_or groups_in q.applicable_if []) (option_map_or groups_in q.override_if [] ++ groups_in q.submittable_if) same in
    let second = split_all (SameIn f.groups other) (option_map_or groups_in q.override_if []) (groups_in q.submittable_if) first.1 in
    let a = option_alike law q.applicable_if true f other first.0 in
    let o = option_alike law q.override_if false f other second.0 in
    let s = law q.submittable_if f other second.1 in
    λ i. record { name = q.name; status = if not (a i) then NotApplicable else if o i then Overridden else if s i then Satisfied else Unsatisfied }

all_alike : GroupsSuffice → (qs : List (RequirementView Expr)) (f : ChangeFacts) (other : GroupList) → SameInAll f.groups other (flat_map groups_of_requirement qs) →
    map (stands f) qs ≡ map (stands (record f { groups = other })) qs
all_alike law [] f other same = refl
all_alike law (q ∷ qs) f other same =
    let parts = split_all (SameIn f.groups other) (groups_of_requirement q) (flat_map groups_of_requirement qs) same in
    λ i. stands_alike law q f other parts.0 i ∷ all_alike law qs f other parts.1 i

-- ---- the file

-- whether a tree holds for a change, where it is that of a requirement
abbrev tree_holds : ChangeFacts → ExprTree → Bool
tree_holds f (OfRequirement t) = holds (requirement_holds f) t
tree_holds f (OfCopy t) = false

by_tree : (f : ChangeFacts) (e : Expr) → holds_for (facts.Change f) e ≡ tree_holds f (tree_of e)
by_tree f (expr.Requirement e) = refl
by_tree f (expr.Copy e) = refl

by_tree_or : (f : ChangeFacts) (o : Option Expr) (d : Bool) → option_map_or (holds_for (facts.Change f)) o d ≡ option_map_or (tree_holds f) (option_map tree_of o) d
by_tree_or f None d = refl
by_tree_or f (Some e) d = by_tree f e

-- how a requirement stands by its trees
abbrev tree_stands : ChangeFacts → RequirementView ExprTree → ShownRequirement
tree_stands f q = record {
  name = q.name;
  status = if not (option_map_or (tree_holds f) q.applicable_if true) then NotApplicable
      else if option_map_or (tree_holds f) q.override_if false then Overridden
      else if tree_holds f q.submittable_if then Satisfied
      else Unsatisfied;
}

stands_by_tree : (f : ChangeFacts) (q : RequirementView Expr) → stands f q ≡ tree_stands f (requirement_trees q)
stands_by_tree f q =
    let a = by_tree_or f q.applicable_if true in
    let o = by_tree_or f q.override_if false in
    let s = by_tree f q.submittable_if in
    λ i. record { name = q.name; status = if not (a i) then NotApplicable else if o i then Overridden else if s i then Satisfied else Unsatisfied }

all_by_tree : (f : ChangeFacts) (qs : List (RequirementView Expr)) → map (stands f) qs ≡ map (tree_stands f) (map requirement_trees qs)
all_by_tree f [] = refl
all_by_tree f (q ∷ qs) = λ i. stands_by_tree f q i ∷ all_by_tree f qs i

-- files with the same trees have requirements that stand alike
files_alike : (f g : File) (c : ChangeFacts) → file_trees f ≡ file_trees g → map (stands c) f.requirements ≡ map (stands c) g.requirements
files_alike f g c same = all_by_tree c f.requirements ∙ (ap (λ t. map (tree_stands c) t.requirements) same ∙ sym (all_by_tree c g.requirements))

abbrev tree_range : LabelView ExprTree → ValueRange
tree_range l = record { least = least_value l.values; greatest = greatest_value l.values }

-- the range of a label, by the trees of labels
range_by_trees : (l : List ℕ) (ls : List (LabelView Expr)) → option_map range_of (find (λ x. bytes_eq x.name l) ls) ≡ option_map tree_range (find (λ x. bytes_eq x.name l) (map label_trees ls))
range_by_trees l [] = refl
range_by_trees l (x ∷ xs) = at (bytes_eq x.name l) (find (λ y. bytes_eq y.name l) xs) (find (λ y. bytes_eq y.name l) (map label_trees xs)) (range_by_trees l xs)
  where
    at : (b : Bool) (o : Option (LabelView Expr)) (t : Option (LabelView ExprTree)) → option_map range_of o ≡ option_map tree_range t → option_map range_of (cond b (Some x) o) ≡ option_map tree_range (cond b (Some (label_trees x)) t)
    at true o t same = refl
    at false o t same = same

ranges_alike : (f g : File) (l : List ℕ) → file_trees f ≡ file_trees g → option_map range_of (label_in f l) ≡ option_map range_of (label_in g l)
ranges_alike f g l same = range_by_trees l f.labels ∙ (ap (λ t. option_map tree_range (find (λ x. bytes_eq x.name l) t.labels)) same ∙ sym (range_by_trees l g.labels))

-- ---- both

-- how requirements stand by what was loaded is how they stand after the history
pub standing_told : GroupsSuffice → (reading : Reading) (h : List Entry) (rows : Rows) (f : File) (c : Change) (shown : List ShownRequirement) → Agree reading h rows → file_trees f ≡ file_trees (file_of reading h c.project) →
    AllByRecursion (IsKnown rows) (map want.Group (required_groups f)) → AreStanding (setting_by f rows.groups) c shown → AreStanding (setting_of reading h c.project) c shown
standing_told law reading h rows f c shown agree same asked s = record {
  facts = record s.facts { groups = groups_of h };
  are_facts = record {
    votes = s.are_facts.votes;
    ranges = λ l. s.are_facts.ranges l ∙ ranges_alike f (file_of reading h c.project) l same;
    paths = s.are_facts.paths;
    owner = s.are_facts.owner;
    uploader = s.are_facts.uploader;
    branch = s.are_facts.branch;
    unresolved = s.are_facts.unresolved;
    groups = refl;
  };
  each = s.each
      ∙ (all_alike law f.requirements s.facts (groups_of h) (subst (λ g. SameInAll g (groups_of h) (required_groups f)) (sym s.are_facts.groups) (same_in_all reading h rows (required_groups f) agree asked))
      ∙ files_alike f (file_of reading h c.project) (record s.facts { groups = groups_of h }) same);
}

-- ==== what a change is shown as, from its tables

role_kept : (asked : Role) (o : Option Role) → is_some (option_filter (λ r. has_role asked (Some r)) o) ≡ has_role asked o
role_kept asked (Some r) = some_where (has_role asked (Some r)) r
role_kept Reviewer None = refl
role_kept Cc None = refl

-- the accounts that have a role
pub those_listed : (asked : Role) (rows : List (ℕ × Role)) → IsStrictlySortedBy nat_cmp (keys_of rows) → AreThose (λ u. has_role asked (row_in nat_cmp rows u)) (keys_of (filter (λ e. has_role asked (Some e.1)) rows))
those_listed asked rows s = record {
  ordered = order_kept nat_cmp (λ e. has_role asked (Some e.1)) rows s;
  each = λ u. has_row (filter (λ e. has_role asked (Some e.1)) rows) u
      ∙ (ap is_some (row_kept accounts_tell (λ e. has_role asked (Some e.1)) rows s u) ∙ role_kept asked (row_in nat_cmp rows u));
}

never_kept : {X : Type 0} (o : Option X) → option_filter (λ x. false) o ≡ None
never_kept None = refl
never_kept (Some x) = refl

-- the votes on a patch set
pub votes_listed : (n : ℕ) (rows : List (VoteKey × ℤ)) → IsStrictlySortedBy vote_cmp (keys_of rows) →
    AreListed vote_cmp (λ k. cond (k.patch == n) (unless_zero (value_of (row_in vote_cmp rows (vote_key n k.label k.account)))) None) (filter (is_on n) rows)
votes_listed n rows s = record {
  ordered = order_kept vote_cmp (is_on n) rows s;
  each = λ k. row_kept votes_tell (is_on n) rows s k ∙ at k (k.patch == n) refl;
}
  where
    at : (k : VoteKey) (b : Bool) → (k.patch == n) ≡ b → option_filter (λ v. (k.patch == n) && voted v) (row_in vote_cmp rows k) ≡ cond (k.patch == n) (unless_zero (value_of (row_in vote_cmp rows (vote_key n k.label k.account)))) None
    at k true is =
        let same : k ≡ vote_key n k.label k.account = λ i. vote_key (eqb-true k.patch n is i) k.label k.account in
        ap (λ b. option_filter (λ v. b && voted v) (row_in vote_cmp rows k)) is
        ∙ (value_kept (row_in vote_cmp rows k) ∙ (ap (λ x. unless_zero (value_of (row_in vote_cmp rows x))) same
        ∙ sym (ap (λ b. cond b (unless_zero (value_of (row_in vote_cmp rows (vote_key n k.label k.account)))) None) is)))
    at k false is =
        ap (λ b. option_filter (λ v. b && voted v) (row_in vote_cmp rows k)) is
        ∙ (never_kept (row_in vote_cmp rows k) ∙ sym (ap (λ b. cond b (unless_zero (value_of (row_in vote_cmp rows (vote_key n k.label k.account)))) None) is))

-- who sent the last patch set
pub last_sender : (before : ℕ) (patches : List PatchRow) (p : PatchRow) → of_number patches (length patches) ≡ Some p → last_uploader before patches ≡ p.uploader
last_sender before [] p is = absurd (cc)
last_sender before (q ∷ []) p is = let same : q ≡ p = cc in ap (λ x. x.uploader) same
last_sender before (q ∷ r ∷ ps) p is = last_sender q.uploader (r ∷ ps) p is

-- the votes on the current patch set of a change, as they are shown
pub votes_shown : (rows : ChangeRows) (n : ℕ) (shown : List ShownVote) → n ≡ current (seen rows) → IsStrictlySortedBy vote_cmp (keys_of (rows_of rows.votes)) →
    shown ≡ map shown_vote (filter (is_on n) (rows_of rows.votes)) → AreVotes (seen rows) shown
votes_shown rows n shown now sorted is = (
  filter (is_on n) (rows_of rows.votes),
  subst (λ m. AreListed vote_cmp (λ k. cond (k.patch == m) (unless_zero (value_of (row_in vote_cmp (rows_of rows.votes) (vote_key m k.label k.account)))) None) (filter (is_on n) (rows_of rows.votes))) now
      (votes_listed n (rows_of rows.votes) sorted),
  is,
)

some_last : (q : PatchRow) (ps : List PatchRow) → (p : PatchRow) × (slice_get (q ∷ ps) (length ps) ≡ Some p)
some_last q [] = (q, refl)
some_last q (r ∷ ps) = some_last r ps

-- where there is a patch set, there is a last one
pub none_last : (patches : List PatchRow) → is_within most_patches (length patches) ≡ true → slice_get patches (length patches - 1) ≡ None → ⊥
none_last [] within none = let low = (within_parts most_patches 0 within).0 in absurd (omega arith)
none_last (q ∷ ps) within none =
    let at : length (q ∷ ps) - 1 ≡ length ps = omega arith in
    let there = some_last q ps in
    let bad : Some there.0 ≡ None = sym there.1 ∙ (ap (slice_get (q ∷ ps)) (sym at) ∙ none) in
    absurd (cc)

-- ==== the answer to a question, from what was loaded

-- a question about a change that isn't there
pub none_answered : (reading : Reading) (h : List Entry) (caller n : ℕ) (query : ChangeQuery) → is_account h caller ≡ true → change reading h n ≡ None → IsQueryAnswerBy reading h caller (OnChange n query) (Refused NoChange)
none_answered reading h caller n query account none =
    refused_question reading h caller (OnChange n query) NoChange (λ i. first_refusal ((account i, UnknownCaller) ∷ (is_some (none i), NoChange) ∷ []))

-- a question that no check refuses
pub told_there : (reading : Reading) (h : List Entry) (caller n : ℕ) (query : ChangeQuery) (c : Change) (told : Answer) → is_account h caller ≡ true → change reading h n ≡ Some c →
    IsToldOf (setting_of reading h c.project) n query c told → IsQueryAnswerBy reading h caller (OnChange n query) (Done told)
told_there reading h caller n query c told account there is =
    told_question reading h caller (OnChange n query) told (λ i. first_refusal ((account i, UnknownCaller) ∷ (is_some (there i), NoChange) ∷ []))
    (subst (IsOf (λ x. IsToldOf (setting_of reading h x.project) n query x told)) (sym there) is)

-- what is told by what was loaded is what the history says
told_of : OneEffective → GroupsSuffice → (reading : Reading) (h : List Entry) (caller n : ℕ) (query : ChangeQuery) (effective : Option File) (rows : Rows) (c : Change) (told : Answer) → change_in (known rows (want.Change n)) ≡ Some c →
    AreEnough reading h caller (OfQuery (OnChange n query)) effective rows → IsToldBy effective rows.groups n query c told → IsToldOf (setting_of reading h c.project) n query c told
told_of one law reading h caller n query None rows c told found l is = is (setting_of reading h c.project)
told_of one law reading h caller n Requirements (Some f) rows c told found l is =
    let trees = same_trees one reading h c.project (Some f) l.reads (has_file reading h caller n (Some f) rows c found l) in
    (is.0, standing_told law reading h rows f c is.0 l.agree trees (file_asked (Some f) rows caller (OfQuery (OnChange n Requirements)) l.nothing_left) is.1, is.2)
told_of one law reading h caller n _ (Some f) rows c told found l is = is

-- the answer that is told of the change that was loaded
pub answered : OneEffective → GroupsSuffice → (reading : Reading) (h : List Entry) (caller n : ℕ) (query : ChangeQuery) (effective : Option File) (rows : Rows) (c : Change) (told : Answer) → is_account h caller ≡ true →
    change_in (known rows (want.Change n)) ≡ Some c → AreEnough reading h caller (OfQuery (OnChange n query)) effective rows → IsToldBy effective rows.groups n query c told → IsQueryAnswerBy reading h caller (OnChange n query) (Done told)
answered one law reading h caller n query effective rows c told account found l is =
    told_there reading h caller n query c told account (sym (change_told reading h caller n query effective rows l) ∙ found) (told_of one law reading h caller n query effective rows c told found l is)

-- ---- what each question is told
