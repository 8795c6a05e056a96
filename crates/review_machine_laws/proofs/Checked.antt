-- The checks of a command by rows that decide it are those by the history.
use Rattle.std.proofs.Common.{◌≡◌, ℕ, List, [], ◌∷◌, ◌++◌, Option, Some, None, Bool, true, false, cond, ◌&&◌, ◌||◌, refl, sym, ap, ◌∙◌, subst, map, filter, find, int_eq, is_some, int_le, bytes_eq, nat_le, option_and_then, unwrap_or}
use Rattle.std.specs.List.{AllByRecursion, list_all, list_any}
use Rattle.review_names.specs.{Groups.has_account, Names.administrators, Names.registered_users}
use Rattle.review_words.specs.History.{Entry, is_account, is_admin, is_project}
use Rattle.review_words.specs.declared.changes.{Given.Given, NewChange.NewChange, Review.Review as ReviewOf}
use Rattle.review_words.specs.declared.command.ChangeCommand.TheVariants.{Abandon, AddAttention, AddReviewer, RemoveAttention, RemoveReviewer, Restore, Review, SetReady, SetWip, Upload}
use Rattle.review_words.specs.declared.command.Command.TheVariants.{CloseEpoch, CreateAccount, CreateChange, OnChange, PutGroup, PutProject, RecordBase, Submit}
use Rattle.review_words.specs.declared.reply.Refusal.{Refusal, TheVariants.UnknownCaller}
use Rattle.review_file_rules.specs.Inherited.{no_file}
use Rattle.review_file_rules.specs.Rights.{grants_of, greatest_of, groups_of as right_groups, least_of}
use Rattle.review_file_rules.specs.Trees.{file_trees, label_trees}
use Rattle.review_file_rules.specs.declared.parts.{Grant.Grant, Right.Right}
use Rattle.review_core_rules.specs.Change.{Change, label_in}
use Rattle.review_machine_rows.proofs.Asked.{all_asked, beside_caller, change_asked, file_asked, line_asked}
use Rattle.review_machine_rows.proofs.Common.{ChangeCommand, Command, Expr, ExprTree, File, LabelView, option_map_or}
use Rattle.review_machine_rows.proofs.Lined.{texts_told, there_is}
use Rattle.review_machine_rows.specs.Answer.{checks, first_refusal, given_checks, has_right, is_in_range, is_value_of, of_change, refused_by, request_checks, submit_checks}
use Rattle.review_machine_rows.specs.Changes.{Reading, Reads, change, effective_of, file_of, groups_of, own_of, texts_of}
use Rattle.review_machine_rows.specs.{Desks.facts_by, Desks.facts_in, Desks.facts_of, Desks.in_rows, Facts.DeskFacts}
use Rattle.review_machine_rows.specs.Known.{IsKnown, change_in, is_so, is_there, known}
use Rattle.review_machine_rows.specs.Lines.{line_of, most_depth, with_above}
use Rattle.review_machine_rows.specs.Steps.{HasFile, OfCommand, admin_wants, asks_admin, caller_in, command_wants, given_wants, granted_groups, Topic, file_wants, has_some, known_parent, line_steps, named_in, needs_file, next, parent_of, project_for, project_of, request_groups, request_wants, submit_groups, submit_wants, texts_in, unknown, wants_by}
use Rattle.review_machine_rows.specs.View.{AreEnough}
use Rattle.review_machine_rows.specs.declared.rows.{Rows.Rows, StoredFile.StoredFile, Want.Want}
use Rattle.review_machine_laws.proofs.{Grouped.in_group, Histories.OneEffective, Histories.same_file}
use Rattle.review_machine_laws.proofs.Told.{Agree, account_told, change_told, holder_told, known_told, last_change_told, last_told, member_told, place_told, project_told, room_told}
use Rattle.review_file_rules.specs.declared.parts.Right.TheVariants as right
use Rattle.review_machine_rows.specs.declared.rows.Counted.TheVariants as counted
use Rattle.review_machine_rows.specs.declared.rows.Want.TheVariants as want

-- ==== what a command asked

-- all that a command asks beside the caller was asked
pub asked_beside : {reading : Reading} {file : Option File} (h : List Entry) (caller : ℕ) (command : Command) (rows : Rows) → AreEnough reading h caller (OfCommand command) file rows → AllByRecursion (IsKnown rows) (command_wants command)
asked_beside h caller command rows l = beside_caller rows caller command (all_asked _ rows caller (OfCommand command) l.nothing_left)

-- whether the caller is an account
pub caller_is : {reading : Reading} {file : Option File} (h : List Entry) (caller : ℕ) (command : Command) (rows : Rows) → AreEnough reading h caller (OfCommand command) file rows → is_there (known rows (want.Account caller)) ≡ is_account h caller
caller_is {reading = reading} h caller command rows l = account_told reading h rows caller l.agree (all_asked _ rows caller (OfCommand command) l.nothing_left).1.0

-- whether the caller is an administrator
pub admin_is : {reading : Reading} {file : Option File} (h : List Entry) (caller : ℕ) (command : Command) (rows : Rows) → asks_admin command ≡ true → AreEnough reading h caller (OfCommand command) file rows →
    is_so (known rows (want.Member (record { group = administrators; account = caller }))) ≡ is_admin h caller
admin_is {reading = reading} h caller command rows asks l =
    let all = (all_asked _ rows caller (OfCommand command) l.nothing_left).1.1 in
    member_told reading h rows administrators caller l.agree (subst (λ b. AllByRecursion (IsKnown rows) (admin_wants caller b ++ command_wants command)) asks all).0

-- ==== the file that was read

-- no file is read where there are no texts, and one where there are some
pub no_text : (texts : List (List ℕ)) → HasFile texts None → texts ≡ []
no_text [] has = refl
no_text (t ∷ ts) has = let bad = has.2 in absurd (cc)

-- whether there are texts
abbrev has_texts : List (List ℕ) → Bool
has_texts [] = false
has_texts (t ∷ ts) = true

-- a project has texts where it is there
texts_there : (h : List Entry) (project : List ℕ) → is_project h project ≡ has_texts (texts_of h project)
texts_there h project = there_is h project ∙ by (own_of h project)
  where
    by : (o : Option StoredFile) → is_some o ≡ has_texts (with_above o (line_of (own_of h) 7))
    by None = refl
    by (Some f) = refl

-- a project is there where a file is read of its line
file_there : (h : List Entry) (project : List ℕ) (o : Option File) → HasFile (texts_of h project) o → is_project h project ≡ is_some o
file_there h project o has = texts_there h project ∙ by (texts_of h project) o has
  where
    by : (ts : List (List ℕ)) (f : Option File) → HasFile ts f → has_texts ts ≡ is_some f
    by [] f has = sym (ap is_some has)
    by (t ∷ ts) f has = sym (ap is_some has.2)

-- a project of whose line no file is read isn't there
pub lacks_project : (h : List Entry) (project : List ℕ) → HasFile (texts_of h project) None → is_project h project ≡ false
lacks_project h project has = file_there h project None has

-- the file that was read, or one with nothing in it, has the trees of the one that is read
pub same_trees : OneEffective → (reading : Reading) (h : List Entry) (project : List ℕ) (file : Option File) → Reads reading h → HasFile (texts_of h project) file →
    file_trees (unwrap_or file no_file) ≡ file_trees (file_of reading h project)
same_trees one reading h project None reads has = ap (λ ts. file_trees (effective_of reading ts)) (sym (no_text (texts_of h project) has))
same_trees one reading h project (Some f) reads has = same_file one reading h project f reads has

-- what is asked of a label is asked of its trees
in_trees : {X : Type 0} (p : LabelView ExprTree → X) (d : X) (name : List ℕ) (ls : List (LabelView Expr)) →
    option_map_or (λ l. p (label_trees l)) (find (λ l. bytes_eq l.name name) ls) d ≡ option_map_or p (find (λ l. bytes_eq l.name name) (map label_trees ls)) d
in_trees p d name [] = refl
in_trees p d name (l ∷ ls) = at (bytes_eq l.name name) (find (λ k. bytes_eq k.name name) ls) (find (λ k. bytes_eq k.name name) (map label_trees ls)) (in_trees p d name ls)
  where
    at : (b : Bool) (o : Option (LabelView Expr)) (t : Option (LabelView ExprTree)) → option_map_or (λ k. p (label_trees k)) o d ≡ option_map_or p t d →
        option_map_or (λ k. p (label_trees k)) (cond b (Some l) o) d ≡ option_map_or p (cond b (Some (label_trees l)) t) d
    at true o t same = refl
    at false o t same = same

-- files with the same trees say the same of a label
pub same_label : {X : Type 0} (p : LabelView ExprTree → X) (d : X) (name : List ℕ) (f g : File) → file_trees f ≡ file_trees g →
    option_map_or (λ l. p (label_trees l)) (label_in f name) d ≡ option_map_or (λ l. p (label_trees l)) (label_in g name) d
same_label p d name f g same =
    in_trees p d name f.labels ∙ (ap (λ t. option_map_or p (find (λ l. bytes_eq l.name name) t.labels) d) same ∙ sym (in_trees p d name g.labels))

some_is : {X : Type 0} (o : Option X) → is_some o ≡ option_map_or (λ x. true) o false
some_is None = refl
some_is (Some x) = refl

has_label : (name : List ℕ) (f g : File) → file_trees f ≡ file_trees g → is_some (label_in f name) ≡ is_some (label_in g name)
has_label name f g same = some_is (label_in f name) ∙ (same_label (λ l. true) false name f g same ∙ sym (some_is (label_in g name)))

-- ==== groups that were asked for

module _ (reading : Reading) (h : List Entry) (rows : Rows) (agree : Agree reading h rows) (account : ℕ) where
  -- whether an account is in a group
  in_told : (group : List ℕ) → IsKnown rows (want.Member (record { group = group; account = account })) → in_rows rows account group ≡ has_account (groups_of h) group account
  in_told group there = ap (λ b. bytes_eq group registered_users || b) (member_told reading h rows group account agree there) ∙ sym (in_group h group account)

  -- whether it is in one of some
  in_some_told : (groups : List (List ℕ)) → AllByRecursion (IsKnown rows) (caller_in account groups) → list_any (in_rows rows account) groups ≡ list_any (λ group. has_account (groups_of h) group account) groups
  in_some_told [] all = refl
  in_some_told (g ∷ gs) all = λ i. in_told g all.0 i || in_some_told gs all.1 i

  -- the grants to its groups
  granted_told : (grants : List Grant) → AllByRecursion (IsKnown rows) (caller_in account (map (λ g. g.group) grants)) →
      filter (λ x. in_rows rows account x.group) grants ≡ filter (λ x. has_account (groups_of h) x.group account) grants
  granted_told [] all = refl
  granted_told (g ∷ gs) all = λ i. cond (in_told g.group all.0 i) (g ∷ granted_told gs all.1 i) (granted_told gs all.1 i)

-- what holds of all of two lists holds of all of each
pub split_all : {X : Type 0} (P : X → Type 0) (xs ys : List X) → AllByRecursion P (xs ++ ys) → AllByRecursion P xs × AllByRecursion P ys
split_all P [] ys all = (tt, all)
split_all P (x ∷ xs) ys all = let rest = split_all P xs ys all.1 in ((all.0, rest.0), rest.1)

-- wants of one list and of another
both_asked : (rows : Rows) (account : ℕ) (xs ys : List (List ℕ)) → AllByRecursion (IsKnown rows) (caller_in account (xs ++ ys)) → AllByRecursion (IsKnown rows) (caller_in account xs) × AllByRecursion (IsKnown rows) (caller_in account ys)
both_asked rows account [] ys all = (tt, all)
both_asked rows account (x ∷ xs) ys all = let rest = both_asked rows account xs ys all.1 in ((all.0, rest.0), rest.1)

all_same : (p q : Given → Bool) (xs : List Given) → ((x : Given) → p x ≡ q x) → list_all p xs ≡ list_all q xs
all_same p q [] same = refl
all_same p q (x ∷ xs) same = λ i. same x i && all_same p q xs same i

-- what refuses a command of an account is the first of its checks that fails
by_checks : (reading : Reading) (h : List Entry) (caller : ℕ) (command : Command) (list : List (Bool × Refusal)) → is_account h caller ≡ true → checks (facts_of reading h) caller command ≡ list →
    refused_by reading h caller command ≡ first_refusal list
by_checks reading h caller command list account same = λ i. first_refusal ((account i, UnknownCaller) ∷ same i)

module _ (reading : Reading) (h : List Entry) (caller : ℕ) (effective : Option File) (rows : Rows) where
  abbrev by_history : DeskFacts
  by_history = facts_of reading h

  abbrev by_rows : DeskFacts
  by_rows = facts_by rows effective

  abbrev file : File
  file = unwrap_or effective no_file

  -- ==== commands that no file judges

  -- what refuses a new account is what the rows tell
  pub create_account_told : (name : List ℕ) → is_account h caller ≡ true → AreEnough reading h caller (OfCommand (CreateAccount name)) effective rows →
      refused_by reading h caller (CreateAccount name) ≡ first_refusal (checks (facts_in rows) caller (CreateAccount name))
  create_account_told name account l =
      let admin = admin_is h caller (CreateAccount name) rows refl l in
      let all = asked_beside h caller (CreateAccount name) rows l in
      let taken = holder_told reading h rows name l.agree all.0 in
      let last = last_told reading h rows l.agree all.1.0 in
      by_checks reading h caller (CreateAccount name) (checks (facts_in rows) caller (CreateAccount name)) account (cc (admin, taken, last))

  each_account : (ns : List ℕ) → Agree reading h rows → AllByRecursion (IsKnown rows) (map want.Account ns) → list_all (λ n. is_there (known rows (want.Account n))) ns ≡ list_all (is_account h) ns
  each_account [] agree all = refl
  each_account (n ∷ ns) agree all = λ i. account_told reading h rows n agree all.0 i && each_account ns agree all.1 i

  -- and so are what refuses the members of a group
  pub put_group_told : (group members : List ℕ) → is_account h caller ≡ true → AreEnough reading h caller (OfCommand (PutGroup group members)) effective rows →
      refused_by reading h caller (PutGroup group members) ≡ first_refusal (checks (facts_in rows) caller (PutGroup group members))
  put_group_told group members account l =
      let admin = admin_is h caller (PutGroup group members) rows refl l in
      let there = each_account members l.agree (asked_beside h caller (PutGroup group members) rows l).1 in
      by_checks reading h caller (PutGroup group members) (checks (facts_in rows) caller (PutGroup group members)) account (cc (admin, there))

  -- and what refuses a base
  pub record_base_told : (project branch commit : List ℕ) → is_account h caller ≡ true → AreEnough reading h caller (OfCommand (RecordBase project branch commit)) effective rows →
      refused_by reading h caller (RecordBase project branch commit) ≡ first_refusal (checks (facts_in rows) caller (RecordBase project branch commit))
  record_base_told project branch commit account l =
      let all = asked_beside h caller (RecordBase project branch commit) rows l in
      let admin = admin_is h caller (RecordBase project branch commit) rows refl l in
      let there = project_told reading h rows project l.agree all.0 in
      let sent = known_told reading h rows project branch commit l.agree all.1.0 all.1.1.0 in
      let room = room_told reading h rows (counted.BasesOf project) l.agree all.1.1.1.0 in
      by_checks reading h caller (RecordBase project branch commit) (checks (facts_in rows) caller (RecordBase project branch commit)) account (cc (admin, there, sent, room))

  -- ==== what was asked of a file, and of the change that a command names

  -- the file that was read is that of the project by whose file a command is judged
  file_told : (command : Command) (project : List ℕ) → project_of rows (OfCommand command) ≡ Some project → parent_of rows (OfCommand command) ≡ known_parent rows project → IsKnown rows (want.File project) →
      AreEnough reading h caller (OfCommand command) effective rows → HasFile (texts_of h project) effective
  file_told command project start parent there l =
      subst (λ t. HasFile t effective)
      (ap (texts_in rows) start
      ∙ texts_told reading h rows l.agree project there (subst (λ o. AllByRecursion (λ s. unknown rows s ≡ []) (line_steps rows most_depth o)) parent (line_asked effective rows caller (OfCommand command) l.nothing_left)))
      l.file_is

  -- what a file without grants asks
  none_granted : (given : List Given) → granted_groups no_file given ≡ []
  none_granted [] = refl
  none_granted (g ∷ gs) = none_granted gs

  -- what the file that was read asks, where one without anything asks for nothing
  asked_of_file : (topic : Topic) (wants : File → List Want) → next effective rows caller topic ≡ [] → ((f : File) → file_wants (Some f) caller topic ≡ wants f) → AllByRecursion (IsKnown rows) (wants no_file) → AllByRecursion (IsKnown rows) (wants file)
  asked_of_file topic wants left is none = at effective refl
    where
      at : (o : Option File) → effective ≡ o → AllByRecursion (IsKnown rows) (wants (unwrap_or o no_file))
      at None e = none
      at (Some f) e = subst (AllByRecursion (IsKnown rows)) (is f) (subst (λ o. AllByRecursion (IsKnown rows) (file_wants o caller topic)) e (file_asked effective rows caller topic left))

  none_wanted : (request : ChangeCommand) → AllByRecursion (IsKnown rows) (request_groups no_file caller request)
  none_wanted (Review review) = subst (λ gs. AllByRecursion (IsKnown rows) (caller_in caller gs)) (sym (none_granted review.labels)) tt
  none_wanted _ = tt

  -- the groups that a request on a change asks for
  pub groups_asked : (n : ℕ) (request : ChangeCommand) → AreEnough reading h caller (OfCommand (OnChange n request)) effective rows → AllByRecursion (IsKnown rows) (request_groups (unwrap_or effective no_file) caller request)
  groups_asked n request l = asked_of_file (OfCommand (OnChange n request)) (λ f. request_groups f caller request) l.nothing_left (λ f. refl) (none_wanted request)

  -- the groups that a submit asks for
  pub submit_groups_asked : (n : ℕ) → AreEnough reading h caller (OfCommand (Submit n)) effective rows → AllByRecursion (IsKnown rows) (submit_groups (unwrap_or effective no_file) caller)
  submit_groups_asked n l = asked_of_file (OfCommand (Submit n)) (λ f. submit_groups f caller) l.nothing_left (λ f. refl) tt

  module _ (n : ℕ) (c : Change) (found : change_in (known rows (want.Change n)) ≡ Some c) where
    -- all that a request asked by the change
    pub asked_by : (request : ChangeCommand) → AreEnough reading h caller (OfCommand (OnChange n request)) effective rows → AllByRecursion (IsKnown rows) (request_wants request c)
    asked_by request l = subst (AllByRecursion (IsKnown rows)) (ap (wants_by (request_wants request)) found) (change_asked effective rows caller (OfCommand (OnChange n request)) l.nothing_left)

    -- the file that was read is that of the change's project, where it was asked for
    pub file_is : (request : ChangeCommand) → needs_file request ≡ true → IsKnown rows (want.File c.project) → AreEnough reading h caller (OfCommand (OnChange n request)) effective rows → HasFile (texts_of h c.project) effective
    file_is request needed there l =
        let start : project_of rows (OfCommand (OnChange n request)) ≡ Some c.project = ap (λ b. project_for b (change_in (known rows (want.Change n)))) needed ∙ ap (project_for true) found in
        file_told (OnChange n request) c.project start (ap (option_and_then (known_parent rows)) start) there l

    named_told : (request : ChangeCommand) (account : ℕ) → named_in request ≡ account ∷ [] → AreEnough reading h caller (OfCommand (OnChange n request)) effective rows →
        is_account h account ≡ is_there (known rows (want.Account account))
    named_told request account names l =
        sym (account_told reading h rows account l.agree (subst (λ ns. AllByRecursion (IsKnown rows) (want.Change n ∷ map want.Account ns)) names (asked_beside h caller (OnChange n request) rows l)).1.0)

    -- all that a submit of it asked
    pub submit_asked : AreEnough reading h caller (OfCommand (Submit n)) effective rows → AllByRecursion (IsKnown rows) (submit_wants c)
    submit_asked l = subst (AllByRecursion (IsKnown rows)) (ap (wants_by submit_wants) found) (change_asked effective rows caller (OfCommand (Submit n)) l.nothing_left)

    -- the file that was read is that of the change's project
    pub submit_file : AreEnough reading h caller (OfCommand (Submit n)) effective rows → HasFile (texts_of h c.project) effective
    submit_file l = let start = ap (project_for true) found in file_told (Submit n) c.project start (ap (option_and_then (known_parent rows)) start) (submit_asked l).0 l

  -- ==== commands that a file judges

  module _ (one : OneEffective) where
    -- whether an account has a right
    right_told : (project : List ℕ) (r : Right) → Reads reading h → Agree reading h rows → HasFile (texts_of h project) effective → AllByRecursion (IsKnown rows) (caller_in caller (right_groups r file.access)) →
        has_right by_history (file_of reading h project) r caller ≡ has_right by_rows file r caller
    right_told project r reads agree has all =
        sym (in_some_told reading h rows agree caller (right_groups r file.access) all
        ∙ ap (λ t. list_any (λ group. has_account (groups_of h) group caller) (right_groups r t.access)) (same_trees one reading h project effective reads has))

    -- whether values lie in the range of an account
    ranges_told : (g : File) (given : List Given) → Agree reading h rows → file_trees file ≡ file_trees g → AllByRecursion (IsKnown rows) (caller_in caller (granted_groups file given)) →
        list_all (is_in_range by_history g caller) given ≡ list_all (is_in_range by_rows file caller) given
    ranges_told g [] agree same all = refl
    ranges_told g (x ∷ xs) agree same all =
        let each = both_asked rows caller (map (λ k. k.group) (grants_of file x.label)) (granted_groups file xs) all in
        let few = granted_told reading h rows agree caller (grants_of file x.label) each.0 ∙ ap (filter (λ k. has_account (groups_of h) k.group caller)) (same_label (λ l. l.grants) [] x.label file g same) in
        λ i. (int_le (least_of (sym few i)) x.value && int_le x.value (greatest_of (sym few i))) && ranges_told g xs agree same each.1 i

    module _ (n : ℕ) (c : Change) (found : change_in (known rows (want.Change n)) ≡ Some c) where
      right_is : (request : ChangeCommand) (r : Right) → needs_file request ≡ true → IsKnown rows (want.File c.project) → AllByRecursion (IsKnown rows) (caller_in caller (right_groups r file.access)) →
          AreEnough reading h caller (OfCommand (OnChange n request)) effective rows → has_right by_history (file_of reading h c.project) r caller ≡ has_right by_rows file r caller
      right_is request r needed there asked l = right_told c.project r l.reads l.agree (file_is n c found request needed there l) asked

      -- the checks of values
      given_told : (r : ReviewOf) (given : List Given) → r.labels ≡ given → AreEnough reading h caller (OfCommand (OnChange n (Review r))) effective rows →
          given_checks by_history (file_of reading h c.project) caller r c given ≡ given_checks by_rows file caller r c given
      given_told r [] labels l = refl
      given_told r (g ∷ gs) labels l =
          let there : IsKnown rows (want.File c.project) = (subst (λ x. AllByRecursion (IsKnown rows) (given_wants x c.project)) labels (asked_by n c found (Review r) l)).0 in
          let same = same_trees one reading h c.project effective l.reads (file_is n c found (Review r) (ap has_some labels) there l) in
          let groups = subst (λ x. AllByRecursion (IsKnown rows) (caller_in caller (granted_groups file x))) labels (groups_asked n (Review r) l) in
          let named = sym (all_same (λ x. is_some (label_in file x.label)) (λ x. is_some (label_in (file_of reading h c.project) x.label)) (g ∷ gs) (λ x. has_label x.label file (file_of reading h c.project) same)) in
          let valued = sym (all_same (is_value_of file) (is_value_of (file_of reading h c.project)) (g ∷ gs)
          (λ x. same_label (λ l. list_any (λ v. int_eq v.0 x.value) l.values) false x.label file (file_of reading h c.project) same)) in
          let ranged = ranges_told (file_of reading h c.project) (g ∷ gs) l.agree same groups in
          cc (named, valued, ranged)

      -- the checks of a request on it
      request_told : (request : ChangeCommand) → AreEnough reading h caller (OfCommand (OnChange n request)) effective rows → request_checks by_history caller request c ≡ request_checks by_rows caller request c
      request_told (Upload p) l =
          let asked = asked_by n c found (Upload p) l in
          let may = right_is (Upload p) right.Upload refl asked.0 (split_all (IsKnown rows) (caller_in caller file.access.upload) _ (groups_asked n (Upload p) l)).0 l in
          let sent = known_told reading h rows c.project c.branch p.commit l.agree asked.1.0 asked.1.1.0 in
          let based = known_told reading h rows c.project c.branch p.parent l.agree asked.1.1.1.0 asked.1.1.1.1.0 in
          cc (may, sent, based)
      request_told (Review r) l = let given = given_told r r.labels refl l in cc given
      request_told (AddReviewer account role) l = let named = named_told n c found (AddReviewer account role) account refl l in cc named
      request_told (RemoveReviewer account) l =
          let named = named_told n c found (RemoveReviewer account) account refl l in
          let admin = admin_is h caller (OnChange n (RemoveReviewer account)) rows refl l in
          cc (named, admin)
      request_told SetWip l = let admin = admin_is h caller (OnChange n SetWip) rows refl l in cc admin
      request_told SetReady l = let admin = admin_is h caller (OnChange n SetReady) rows refl l in cc admin
      request_told Abandon l =
          let admin = admin_is h caller (OnChange n Abandon) rows refl l in
          let may = right_is Abandon right.Abandon refl (asked_by n c found Abandon l).0 (groups_asked n Abandon l) l in
          cc (admin, may)
      request_told Restore l =
          let admin = admin_is h caller (OnChange n Restore) rows refl l in
          let may = right_is Restore right.Abandon refl (asked_by n c found Restore l).0 (groups_asked n Restore l) l in
          cc (admin, may)
      request_told (AddAttention account reason) l = let named = named_told n c found (AddAttention account reason) account refl l in cc named
      request_told (RemoveAttention account reason) l = let named = named_told n c found (RemoveAttention account reason) account refl l in cc named

      -- the checks of a submit of it
      submit_told : AreEnough reading h caller (OfCommand (Submit n)) effective rows → submit_checks by_history caller c ≡ submit_checks by_rows caller c
      submit_told l =
          let may = right_told c.project right.Submit l.reads l.agree (submit_file n c found l) (split_all (IsKnown rows) (caller_in caller file.access.submit) _ (submit_groups_asked n l)).0 in
          cc may

    -- what refuses a new change is what the rows tell
    pub create_change_told : (new : NewChange) → is_account h caller ≡ true → AreEnough reading h caller (OfCommand (CreateChange new)) effective rows →
        refused_by reading h caller (CreateChange new) ≡ first_refusal (checks (facts_by rows effective) caller (CreateChange new))
    create_change_told new account l =
        let all = asked_beside h caller (CreateChange new) rows l in
        let has = file_told (CreateChange new) new.project refl refl all.1.1.0 l in
        let there = file_there h new.project effective has in
        let branch = ap (nat_le 1) (place_told reading h rows (record { project = new.project; branch = new.branch }) l.agree all.0) in
        let may = right_told new.project right.Create l.reads l.agree has (asked_of_file (OfCommand (CreateChange new)) (λ f. caller_in caller f.access.create) l.nothing_left (λ f. refl) tt) in
        let sent = known_told reading h rows new.project new.branch new.commit l.agree all.1.1.1.0 all.1.1.1.1.0 in
        let based = known_told reading h rows new.project new.branch new.parent l.agree all.1.1.1.1.1.0 all.1.1.1.1.1.1.0 in
        let last = last_change_told reading h rows l.agree all.1.0 in
        by_checks reading h caller (CreateChange new) (checks by_rows caller (CreateChange new)) account (cc (there, branch, may, sent, based, last))

    -- and so are what refuses a request on a change
    pub on_change_told : (n : ℕ) (request : ChangeCommand) → is_account h caller ≡ true → AreEnough reading h caller (OfCommand (OnChange n request)) effective rows →
        refused_by reading h caller (OnChange n request) ≡ first_refusal (checks (facts_by rows effective) caller (OnChange n request))
    on_change_told n request account l =
        by_checks reading h caller (OnChange n request) (checks by_rows caller (OnChange n request)) account
        (ap (of_change (request_checks by_history caller request)) (sym (change_told reading h rows n l.agree (asked_beside h caller (OnChange n request) rows l).0)) ∙ at (change_in (known rows (want.Change n))) refl)
      where
        at : (o : Option Change) → change_in (known rows (want.Change n)) ≡ o → of_change (request_checks by_history caller request) o ≡ of_change (request_checks by_rows caller request) o
        at None found = refl
        at (Some c) found = request_told n c found request l

    -- and what refuses a submit
    pub submit_refused_told : (n : ℕ) → is_account h caller ≡ true → AreEnough reading h caller (OfCommand (Submit n)) effective rows → refused_by reading h caller (Submit n) ≡ first_refusal (checks (facts_by rows effective) caller (Submit n))
    submit_refused_told n account l =
        by_checks reading h caller (Submit n) (checks by_rows caller (Submit n)) account
        (ap (of_change (submit_checks by_history caller)) (sym (change_told reading h rows n l.agree (asked_beside h caller (Submit n) rows l).0)) ∙ at (change_in (known rows (want.Change n))) refl)
      where
        at : (o : Option Change) → change_in (known rows (want.Change n)) ≡ o → of_change (submit_checks by_history caller) o ≡ of_change (submit_checks by_rows caller) o
        at None found = refl
        at (Some c) found = submit_told n c found l
