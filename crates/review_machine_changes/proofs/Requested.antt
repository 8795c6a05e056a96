-- Requests on a change.
use Rattle.std.proofs.Common.{◌≡◌, ℕ, List, [], ◌∷◌, Option, Some, None, Bool, true, false, cond, ◌||◌, refl, sym, ap, ◌∙◌, subst, map, find, bytes_eq, ℤ, option_map, zero, suc, ◌+◌, ◌≤◌, ◌<◌, length, arith, nat_le, nat_cmp, unwrap_or}
use Rattle.std.{proofs.lemmas.Bool.and_parts, specs.List.AllByRecursion}
use Rattle.review_names.specs.{Forms.most_comments, Groups.GroupList, Names.registered_users}
use Rattle.review_words.specs.History.{Entry, is_account}
use Rattle.review_words.specs.{Texts.IsCommentNumber, declared.changes.Review.Review as ReviewOf}
use Rattle.review_words.specs.declared.command.ChangeCommand.TheVariants.{Review as ReviewCommand, Upload}
use Rattle.review_words.specs.declared.reply.Refusal.TheVariants.{NoChange}
use Rattle.review_expr_judging.specs.{Holds.copy_holds, Holds.holds, declared.facts.VoteFacts.VoteFacts}
use Rattle.{review_expr.specs.Exprs.holds_for, review_file_rules.specs.Inherited.no_file}
use Rattle.review_file_rules.specs.Named.{SameIn, SameInAll, copy_groups, copying_groups, groups_in}
use Rattle.review_file_rules.specs.Trees.{ExprTree, file_trees, label_trees, OfCopy, tree_of}
use Rattle.review_core_rules.specs.Change.{Change, Setting, condition_holds, copying, is_copied, vote_facts, said, after, after_plain}
use Rattle.review_core_rules.specs.Sound.{fits}
use Rattle.review_core_tables.{proofs.Accounts.in_table, proofs.Accounts.is_listed, specs.Copies.group_list}
use Rattle.review_machine_rows.proofs.Asked.{judged_asked}
use Rattle.review_machine_rows.proofs.Common.{ChangeCommand, Damaged, Done, Expr, File, Given, IsUndecided, LabelView, NewPatch, Nothing, OnChange, Reply, nat_tests, option_map_or, row_in, rows_of, slice_cmp}
use Rattle.review_machine_rows.specs.Answer.{IsRequestOutcome, first_refusal, given_checks, most_requests, of_change, refused_by, request_checks}
use Rattle.review_machine_rows.specs.Changes.{Reading, file_of, groups_of, setting_of, change}
use Rattle.review_machine_rows.specs.Desks.{facts_by}
use Rattle.review_machine_rows.specs.Known.{IsKnown, known, change_in, Members, members_of}
use Rattle.review_machine_rows.specs.{Steps.OfCommand, Steps.caller_in, Steps.has_some, View.AreEnough, View.IsDecided}
use Rattle.review_machine_rows.specs.declared.rows.{Delta.Delta, Rows.Rows}
use Rattle.review_machine_laws.proofs.Checked.{asked_by, file_is, groups_asked, lacks_project, on_change_told, same_label, same_trees, split_all}
use Rattle.review_machine_laws.proofs.{Grouped.in_group, Histories.OneEffective, SoundProjects.has_project}
use Rattle.review_machine_laws.proofs.Told.{Agree, held_told}
use Rattle.review_machine_accounts.{proofs.Decided.outcome_answer, specs.inner.Words.is_held}
use Rattle.review_machine_changes.proofs.Made.{request_decided, request_is, review_decided, upload_decided}
use Rattle.review_machine_changes.proofs.Told.{change_is}
use Rattle.review_machine_changes.specs.Deltas.{setting_in, MakesChange, next_request}
use Rattle.review_machine_changes.specs.inner.Done.{next_numbers, IsDone, IsPlainlyDone, is_plain, lacks_file}
use Rattle.review_machine_rows.specs.declared.rows.Want.TheVariants as want
use Rattle.review_expr.specs.declared.expr.Expr.TheVariants as expr
use Rattle.review_expr.specs.declared.expr.Facts.TheVariants as facts

-- ==== which votes a new patch set copies, by the file that was read and the groups that rows know

-- who is in the groups that an expression names decides whether it holds for a vote
abbrev pub GroupsSuffice : Type 0
GroupsSuffice = (e : Expr) (f : VoteFacts) (other : GroupList) → SameInAll f.groups other (groups_in e) → holds_for (facts.Vote f) e ≡ holds_for (facts.Vote (record f { groups = other })) e

-- ---- the groups

pub held_in : (o : Option (List (ℕ × Option (Unit {0})))) (account : ℕ) → is_listed o account ≡ is_held (members_of (option_map (λ t. Members (rows_of t)) o)) account
held_in None account = refl
held_in (Some t) account = refl

-- a group whose members were asked has those of the history
pub same_in : (reading : Reading) (h : List Entry) (rows : Rows) (group : List ℕ) → Agree reading h rows → IsKnown rows (want.Group group) → SameIn (group_list rows.groups) (groups_of h) group
same_in reading h rows group agree there account =
    in_table rows.groups group account
    ∙ (ap (λ b. bytes_eq group registered_users || b)
    (held_in (row_in (slice_cmp nat_cmp) (rows_of rows.groups) group) account ∙ held_told reading h rows group account agree there)
    ∙ sym (in_group h group account))

pub same_in_all : (reading : Reading) (h : List Entry) (rows : Rows) (groups : List (List ℕ)) → Agree reading h rows → AllByRecursion (IsKnown rows) (map want.Group groups) → SameInAll (group_list rows.groups) (groups_of h) groups
same_in_all reading h rows [] agree all = tt
same_in_all reading h rows (g ∷ gs) agree all = (same_in reading h rows g agree all.0, same_in_all reading h rows gs agree all.1)

condition_alike : GroupsSuffice → (o : Option Expr) (f : VoteFacts) (other : GroupList) → SameInAll f.groups other (option_map_or groups_in o []) → condition_holds o f ≡ condition_holds o (record f { groups = other })
condition_alike law None f other same = refl
condition_alike law (Some e) f other same = law e f other same

-- whether the copy condition of a label holds for a vote
abbrev label_copies : Setting → NewPatch → ℕ → Change → List ℕ → ℕ → ℤ → LabelView Expr → Bool
label_copies s p caller c l a v label = condition_holds label.copy_condition (vote_facts s p caller c label a v)

-- groups that agree on those that copy conditions name copy alike
groups_alike : GroupsSuffice → (f : File) (a b : GroupList) (p : NewPatch) (caller : ℕ) (c : Change) (l : List ℕ) (u : ℕ) (v : ℤ) (labels : List (LabelView Expr)) → SameInAll a b (copying_groups labels) →
    option_map_or (label_copies (record { file = f; groups = a }) p caller c l u v) (find (λ x. bytes_eq x.name l) labels) false
    ≡ option_map_or (label_copies (record { file = f; groups = b }) p caller c l u v) (find (λ x. bytes_eq x.name l) labels) false
groups_alike law f a b p caller c l u v [] same = refl
groups_alike law f a b p caller c l u v (x ∷ xs) same =
    let parts = split_all (SameIn a b) (option_map_or groups_in x.copy_condition []) (copying_groups xs) same in
    at (bytes_eq x.name l) (condition_alike law x.copy_condition (vote_facts (record { file = f; groups = a }) p caller c x u v) b parts.0) (groups_alike law f a b p caller c l u v xs parts.1)
  where
    F : LabelView Expr → Bool
    F = label_copies (record { file = f; groups = a }) p caller c l u v

    G : LabelView Expr → Bool
    G = label_copies (record { file = f; groups = b }) p caller c l u v

    at : (t : Bool) → label_copies (record { file = f; groups = a }) p caller c l u v x ≡ label_copies (record { file = f; groups = b }) p caller c l u v x →
        option_map_or (label_copies (record { file = f; groups = a }) p caller c l u v) (find (λ y. bytes_eq y.name l) xs) false
        ≡ option_map_or (label_copies (record { file = f; groups = b }) p caller c l u v) (find (λ y. bytes_eq y.name l) xs) false →
        option_map_or (label_copies (record { file = f; groups = a }) p caller c l u v) (cond t (Some x) (find (λ y. bytes_eq y.name l) xs)) false
        ≡ option_map_or (label_copies (record { file = f; groups = b }) p caller c l u v) (cond t (Some x) (find (λ y. bytes_eq y.name l) xs)) false
    at true here later = here
    at false here later = later

-- ---- the file

-- whether a tree holds for a vote, where it is that of a copy condition
abbrev tree_holds : Option ExprTree → VoteFacts → Bool
tree_holds (Some (OfCopy t)) f = holds (copy_holds f) t
tree_holds _ f = false

-- a copy condition holds where its tree does
by_tree : (o : Option Expr) (f : VoteFacts) → condition_holds o f ≡ tree_holds (option_map tree_of o) f
by_tree (Some (expr.Requirement e)) f = refl
by_tree _ f = refl

-- the facts of a vote, by the tree of its label
abbrev tree_copies : Setting → NewPatch → ℕ → Change → ℕ → ℤ → LabelView ExprTree → Bool
tree_copies s p caller c a v t = tree_holds t.copy_condition (vote_facts s p caller c (record { name = t.name; values = t.values; grants = t.grants; copy_condition = None }) a v)

-- files with the same trees copy alike
files_alike : (f g : File) (groups : GroupList) (p : NewPatch) (caller : ℕ) (c : Change) (l : List ℕ) (a : ℕ) (v : ℤ) → file_trees f ≡ file_trees g →
    is_copied (record { file = f; groups = groups }) p caller c l a v ≡ is_copied (record { file = g; groups = groups }) p caller c l a v
files_alike f g groups p caller c l a v same =
    ap (λ F. option_map_or F (find (λ x. bytes_eq x.name l) f.labels) false) (λ i (label : LabelView Expr). by_tree label.copy_condition (vote_facts (record { file = f; groups = groups }) p caller c label a v) i)
    ∙ (same_label (tree_copies (record { file = f; groups = groups }) p caller c a v) false l f g same
    ∙ sym (ap (λ F. option_map_or F (find (λ x. bytes_eq x.name l) g.labels) false) (λ i (label : LabelView Expr). by_tree label.copy_condition (vote_facts (record { file = g; groups = groups }) p caller c label a v) i)))

names_of : (ls : List (LabelView Expr)) → map (λ x. x.name) ls ≡ map (λ x. x.name) (map label_trees ls)
names_of [] = refl
names_of (l ∷ ls) = ap (λ ns. l.name ∷ ns) (names_of ls)

-- ---- both

-- what a new patch set copies is what the history says
pub copying_told : GroupsSuffice → (reading : Reading) (h : List Entry) (rows : Rows) (f : File) (p : NewPatch) (caller : ℕ) (c : Change) → Agree reading h rows → file_trees f ≡ file_trees (file_of reading h c.project) →
    AllByRecursion (IsKnown rows) (map want.Group (copy_groups f)) → copying (setting_in f rows) (Upload p) caller c ≡ copying (setting_of reading h c.project) (Upload p) caller c
copying_told law reading h rows f p caller c agree same asked = λ i. record { copies = λ l a v. copied l a v i; labels = named i }
  where
    copied : (l : List ℕ) (a : ℕ) (v : ℤ) → is_copied (setting_in f rows) p caller c l a v ≡ is_copied (setting_of reading h c.project) p caller c l a v
    copied l a v =
        groups_alike law f (group_list rows.groups) (groups_of h) p caller c l a v f.labels (same_in_all reading h rows (copy_groups f) agree asked)
        ∙ files_alike f (file_of reading h c.project) (groups_of h) p caller c l a v same

    named : map (λ x. x.name) f.labels ≡ map (λ x. x.name) (file_of reading h c.project).labels
    named = names_of f.labels ∙ (ap (λ t. map (λ x. x.name) t.labels) same ∙ sym (names_of (file_of reading h c.project).labels))

-- ==== a review

-- so many numbers are so many
pub numbers_count : (n k : ℕ) → length (next_numbers n k) ≡ k
numbers_count n zero = refl
numbers_count n (suc k) = ap suc (numbers_count (n + 1) k)

pub numbers_fit : (n k : ℕ) → n + k ≤ most_comments → AllByRecursion IsCommentNumber (next_numbers n k)
numbers_fit n zero room = tt
numbers_fit n (suc k) room = ((omega arith, omega arith), numbers_fit (n + 1) k (omega arith))

-- there is room for the comments of a review that fits
pub room_for : (r : ReviewOf) (c : Change) → fits (ReviewCommand r) c ≡ true → length c.comments + length (said r) ≤ most_comments
room_for r c all = below (length c.comments + length (said r)) (and_parts _ _ (and_parts _ _ all).1).1
  where
    below : (n : ℕ) → nat_le n most_comments ≡ true → n ≤ most_comments
    below n is = grind (arith, nat_tests)

-- ==== a request that no file is there for

-- a request that is judged by a file is of a change whose project has one
pub lacking_undecided : (caller n : ℕ) (request : ChangeCommand) (effective : Option File) (rows : Rows) (c : Change) → change_in (known rows (want.Change n)) ≡ Some c → lacks_file effective request ≡ true →
    IsUndecided caller (OnChange n request) effective rows Damaged
lacking_undecided caller n request (Some f) rows c found lacks = absurd (cc)
lacking_undecided caller n request None rows c found lacks = λ reading h history l.
    let there = judged_asked rows request c (asked_by reading h caller None rows n c found request l) lacks in
    let none = lacks_project h c.project (file_is reading h caller None rows n c found request lacks there l) in
    let some = has_project reading h n c history l.reads (change_is reading h caller n request None rows c found l) in
    let bad : false ≡ true = sym none ∙ some in
    absurd (cc)

-- a review that no file judges gives no values
pub none_given : (rows : Rows) (caller : ℕ) (r : ReviewOf) (c : Change) (o : Option File) → o ≡ None → lacks_file o (ReviewCommand r) ≡ false → None ≡ first_refusal (given_checks (facts_by rows o) (unwrap_or o no_file) caller r c r.labels)
none_given rows caller r c (Some f) is lacks = absurd (cc)
none_given rows caller r c None is lacks = at r.labels lacks
  where
    at : (given : List Given) → has_some given ≡ false → None ≡ first_refusal (given_checks (facts_by rows None) no_file caller r c given)
    at [] none = refl
    at (g ∷ gs) none = absurd (cc)

-- ==== what refuses a request is what rows tell

-- of a change that is there
pub present_told : OneEffective → (reading : Reading) (h : List Entry) (caller n : ℕ) (request : ChangeCommand) (effective : Option File) (rows : Rows) (c : Change) → is_account h caller ≡ true →
    change_in (known rows (want.Change n)) ≡ Some c → AreEnough reading h caller (OfCommand (OnChange n request)) effective rows →
    refused_by reading h caller (OnChange n request) ≡ first_refusal (request_checks (facts_by rows effective) caller request c)
present_told one reading h caller n request effective rows c account found l =
    on_change_told reading h caller effective rows one n request account l ∙ ap (λ o. first_refusal (of_change (request_checks (facts_by rows effective) caller request) o)) found

-- and of one that isn't
pub absent_told : OneEffective → (reading : Reading) (h : List Entry) (caller n : ℕ) (request : ChangeCommand) (effective : Option File) (rows : Rows) → is_account h caller ≡ true →
    change_in (known rows (want.Change n)) ≡ None → AreEnough reading h caller (OfCommand (OnChange n request)) effective rows → refused_by reading h caller (OnChange n request) ≡ Some NoChange
absent_told one reading h caller n request effective rows account none l =
    on_change_told reading h caller effective rows one n request account l ∙ ap (λ o. first_refusal (of_change (request_checks (facts_by rows effective) caller request) o)) none

-- ==== requests that are done

pub plain_unless : (request : ChangeCommand) → ((p : NewPatch) → request ≡ Upload p → ⊥) → ((r : ReviewOf) → request ≡ ReviewCommand r → ⊥) → is_plain request ≡ true
plain_unless (Upload p) sent reviewed = absurd (sent p refl)
plain_unless (ReviewCommand r) sent reviewed = absurd (reviewed r refl)
plain_unless _ sent reviewed = refl

pub plainly_is_done : (file : Option File) (n : ℕ) (request : ChangeCommand) (caller : ℕ) (rows : Rows) (c : Change) (delta : Delta) (reply : Reply) → is_plain request ≡ true →
    IsPlainlyDone n request caller rows c delta reply → IsDone file n request caller rows c delta reply
plainly_is_done file n (Upload p) caller rows c delta reply plain made = absurd (cc)
plainly_is_done file n (ReviewCommand r) caller rows c delta reply plain made = absurd (cc)
plainly_is_done file n _ caller rows c delta reply plain made = made

-- one that is neither a patch set nor a review copies no votes
plain_after : (s : Setting) (request : ChangeCommand) (caller number : ℕ) (c : Change) → is_plain request ≡ true → after s request caller number c ≡ after_plain request caller number c
plain_after s (Upload p) caller number c plain = absurd (cc)
plain_after s _ caller number c plain = refl

-- and is told nothing
plain_outcome : (reading : Reading) (h : List Entry) (caller n : ℕ) (request : ChangeCommand) → is_plain request ≡ true → IsRequestOutcome reading h caller n request (Done Nothing)
plain_outcome reading h caller n (Upload p) plain = absurd (cc)
plain_outcome reading h caller n (ReviewCommand r) plain = absurd (cc)
plain_outcome reading h caller n _ plain = refl

plain_decided : (reading : Reading) (h : List Entry) (caller n : ℕ) (request : ChangeCommand) (rows : Rows) (c : Change) (delta : Delta) (reply : Reply) → is_plain request ≡ true →
    refused_by reading h caller (OnChange n request) ≡ None → change reading h n ≡ Some c → next_request rows ≡ length h + 1 → IsPlainlyDone n request caller rows c delta reply →
    IsDecided reading h caller (OnChange n request) delta reply
plain_decided reading h caller n request rows c delta reply plain passes told number m =
    subst (λ x. IsDecided reading h caller (OnChange n request) delta x) (sym m.reply_is)
    (request_decided reading h caller n request Nothing c delta told
    (subst (λ x. MakesChange n c x delta) (ap (λ q. after_plain request caller q c) number ∙ sym (plain_after (setting_of reading h c.project) request caller (length h + 1) c plain)) m.made)
    (outcome_answer reading h caller (OnChange n request) (Done Nothing) passes (plain_outcome reading h caller n request plain)))

-- a request that is done is decided
pub done_decided : OneEffective → GroupsSuffice → (reading : Reading) (h : List Entry) (caller n : ℕ) (request : ChangeCommand) (effective : Option File) (rows : Rows) (c : Change) (delta : Delta) (reply : Reply) → length h < most_requests →
    change_in (known rows (want.Change n)) ≡ Some c → AreEnough reading h caller (OfCommand (OnChange n request)) effective rows → refused_by reading h caller (OnChange n request) ≡ None →
    IsDone effective n request caller rows c delta reply → IsDecided reading h caller (OnChange n request) delta reply
done_decided one law reading h caller n (Upload p) effective rows c delta reply room found l passes made =
    let file : File = unwrap_or effective no_file in
    let has = file_is reading h caller effective rows n c found (Upload p) refl (asked_by reading h caller effective rows n c found (Upload p) l).0 l in
    let groups = split_all (IsKnown rows) (caller_in caller file.access.upload) (map want.Group (copy_groups file)) (groups_asked reading h caller effective rows n (Upload p) l) in
    upload_decided reading h caller n p file rows c delta reply passes (change_is reading h caller n (Upload p) effective rows c found l) (request_is reading h caller (OnChange n (Upload p)) effective rows room l)
    (copying_told law reading h rows file p caller c l.agree (same_trees one reading h c.project effective l.reads has) groups.1) made
done_decided one law reading h caller n (ReviewCommand r) effective rows c delta reply room found l passes made =
    review_decided reading h caller n r rows c delta reply passes (change_is reading h caller n (ReviewCommand r) effective rows c found l) (request_is reading h caller (OnChange n (ReviewCommand r)) effective rows room l) made
done_decided one law reading h caller n request effective rows c delta reply room found l passes made =
    plain_decided reading h caller n request rows c delta reply refl passes (change_is reading h caller n request effective rows c found l) (request_is reading h caller (OnChange n request) effective rows room l) made
