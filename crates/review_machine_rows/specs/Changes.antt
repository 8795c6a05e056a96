-- The changes that a history makes, and those that join its branches.
use Rattle.std.specs.{BTreeMap.insert_entry, Cmp.Lexicographic.slice_cmp, List.list_any, Option.option_map_or}
use Rattle.std.specs.Ordering.{nat_cmp}
use Rattle.std.specs.Prelude.{ℕ, zero, suc, ◌+◌, ◌==◌, ◌&&◌, ◌||◌, Bool, false, List, [], ◌∷◌, ◌++◌, Option, Some, None, if◌then◌else◌, option_map, map, length}
use Rattle.{std.specs.Str.bytes_eq, review_names.specs.Groups.GroupList, review_names.specs.Names.administrators}
use Rattle.review_words.specs.History.{Entry, accepted, file_text, is_base}
use Rattle.review_words.specs.declared.{changes.NewChange.NewChange, command.ChangeCommand.ChangeCommand}
use Rattle.review_words.specs.declared.{command.Command.Command, reply.Answer.TheVariants.Submitted, reply.Reply.Reply}
use Rattle.{review_words.specs.declared.reply.Reply.TheVariants.Done, review_expr.specs.declared.expr.Expr.Expr}
use Rattle.review_file_rules.specs.Inherited.{effective, no_file}
use Rattle.review_file_rules.specs.{Reading.IsRead, Reading.named_parent, View.FileView}
use Rattle.review_core_rules.specs.Change.{Change, Setting, after, begun, commit, joined_at}
use Rattle.review_machine_rows.specs.{Lines.line_of, Lines.most_depth, declared.rows.StoredFile.StoredFile}
use Rattle.review_words.specs.declared.command.Command.TheVariants as asked
pub use Rattle.review_machine_rows.specs.Links.{is_for}

-- what is read of each text that spells a project file
abbrev pub Reading : Type 0
Reading = List ℕ → FileView Expr

-- the text that a command puts spells the file that is read
abbrev pub IsReadRight : Reading → Option Command → Type 0
IsReadRight reading (Some (asked.PutProject project text)) = IsRead text (reading text)
IsReadRight reading _ = Unit {0}

-- Each text that was put in the history spells the file that is read.
abbrev pub Reads : Reading → List Entry → Type 0
Reads reading [] = Unit {0}
Reads reading (e ∷ h) = IsReadRight reading (accepted e) × Reads reading h

-- the text of a project's file, with the parent that it names
abbrev pub placed : Option (List ℕ) → Option StoredFile
placed None = None
placed (Some text) = Some (record { text = text; parent = named_parent text })

-- the text of a project's own file, with the parent that it names
abbrev pub own_of : List Entry → List ℕ → Option StoredFile
own_of h project = placed (file_text h project)

-- The texts of a project and of its ancestors, its own first.
abbrev pub texts_of : List Entry → List ℕ → List (List ℕ)
texts_of h project = line_of (own_of h) most_depth project

-- The depth of a project: 1 without a parent, and otherwise one more than its parent's.
abbrev pub depth : List Entry → List ℕ → ℕ
depth h project = length (texts_of h project)

-- the effective file of some texts, as they are read, the own one first
abbrev pub effective_of : Reading → List (List ℕ) → FileView Expr
effective_of reading [] = no_file
effective_of reading (text ∷ above) = effective (reading text) (map reading above)

-- The file of a project: its effective file.
abbrev pub file_of : Reading → List Entry → List ℕ → FileView Expr
file_of reading h project = effective_of reading (texts_of h project)

-- the groups with their members, once this command is done
abbrev pub group_put : Option Command → GroupList → GroupList
group_put (Some (asked.PutGroup group members)) before = insert_entry (slice_cmp nat_cmp) before group members
group_put _ before = before

-- the groups with their members: `Administrators` from the start, and those that were put
abbrev pub groups_of : List Entry → GroupList
groups_of [] = (administrators, 1 ∷ []) ∷ []
groups_of (e ∷ h) = group_put (accepted e) (groups_of h)

-- what the requests on a project's changes are judged by
abbrev pub setting_of : Reading → List Entry → List ℕ → Setting
setting_of reading h project = record { file = file_of reading h project; groups = groups_of h }

-- how many changes there are, once this command is done
abbrev pub change_counted : Option Command → ℕ → ℕ
change_counted (Some (asked.CreateChange new)) n = n + 1
change_counted _ n = n

-- how many changes there are: each accepted CreateChange makes the next
abbrev pub change_count : List Entry → ℕ
change_count [] = 0
change_count (e ∷ h) = change_counted (accepted e) (change_count h)

-- the new change of a number, once this command is done
abbrev pub made_by : Option Command → ℕ → ℕ → Option NewChange → Option NewChange
made_by (Some (asked.CreateChange new)) next n before = if next == n then Some new else before
made_by _ next n before = before

-- the new change of a number: what the accepted CreateChange of that number asked for
abbrev pub made : List Entry → ℕ → Option NewChange
made [] n = None
made (e ∷ h) n = made_by (accepted e) (change_count h + 1) n (made h n)

-- whether the change of a number was made for the branch
abbrev pub is_made_for : List Entry → List ℕ → List ℕ → ℕ → Bool
is_made_for h project branch n = option_map_or (λ new. bytes_eq new.project project && bytes_eq new.branch branch) (made h n) false

-- the changes that an answer says have joined
abbrev pub joined_in : Reply → List ℕ
joined_in (Done (Submitted changes)) = changes
joined_in _ = []

-- the changes that joined by this command, where it is a submit that was answered so
abbrev pub submitted : Option Command → Reply → List ℕ
submitted (Some (asked.Submit n)) reply = joined_in reply
submitted _ reply = []

-- the changes that joined a branch by this command
abbrev pub joined_by : List Entry → Option Command → Reply → List ℕ → List ℕ → List ℕ
joined_by h (Some (asked.Submit n)) reply project branch = if is_made_for h project branch n then joined_in reply else []
joined_by h _ reply project branch = []

-- The changes that joined a branch, in the order of their places, which count from 1: what the accepted submits of changes for it answered.
abbrev pub joined : List Entry → List ℕ → List ℕ → List ℕ
joined [] project branch = []
joined (e ∷ h) project branch = joined h project branch ++ joined_by h (accepted e) e.reply project branch

-- the place of a change in a list, counted from 1
abbrev pub place_in : List ℕ → ℕ → Option ℕ
place_in [] n = None
place_in (c ∷ cs) n = if c == n then Some 1 else option_map (λ k. k + 1) (place_in cs n)

-- a change, where it is this one of those that join their branch: they get the places after those that joined before
abbrev pub joining_at : List Entry → Option ℕ → Option Change → Option Change
joining_at h None before = before
joining_at h (Some place) before = option_map (λ c. joined_at (length (joined h c.project c.branch) + place) (length h + 1) c) before

-- a change, where these changes join their branch
abbrev pub joining : List Entry → List ℕ → ℕ → Option Change → Option Change
joining h changes n before = joining_at h (place_in changes n) before

-- what a command asks of a change, and of which
abbrev pub asked_of : Command → Option (ℕ × ChangeCommand)
asked_of (asked.OnChange change command) = Some (change, command)
asked_of _ = None

-- a change after what is asked of one, by an account after a history
abbrev pub change_after : Reading → List Entry → ℕ → Option (ℕ × ChangeCommand) → ℕ → Option Change → Option Change
change_after reading h caller None n before = before
change_after reading h caller (Some on) n before =
    if on.0 == n then option_map (λ c. after (setting_of reading h c.project) on.1 caller (length h + 1) c) before else before

-- the change of a number, once this command of an account is done
abbrev pub change_by : Reading → List Entry → ℕ → Option Command → ℕ → Option Change → Option Change
change_by reading h caller None n before = before
change_by reading h caller (Some (asked.CreateChange new)) n before = if change_count h + 1 == n then Some (begun new caller (length h + 1)) else before
change_by reading h caller (Some command) n before = change_after reading h caller (asked_of command) n before

-- The change of a number: made by the accepted CreateChange of that number, and as each accepted request that names it, or makes it join its branch, leaves it.
abbrev pub change : Reading → List Entry → ℕ → Option Change
change reading [] n = None
change reading (e ∷ h) n = joining h (submitted (accepted e) e.reply) n (change_by reading h e.identity.caller (accepted e) n (change reading h n))

-- the commit is that of a patch set of the change
abbrev pub has_commit : List ℕ → Change → Bool
has_commit commit c = list_any (λ p. bytes_eq p.commit commit) c.patches

-- one of the changes up to a number passes the test
abbrev pub some_change : Reading → List Entry → (Change → Bool) → ℕ → Bool
some_change reading h test zero = false
some_change reading h test (suc n) = option_map_or test (change reading h (suc n)) false || some_change reading h test n

-- the commit is that of a patch set of a change for the branch
abbrev pub is_sent : Reading → List Entry → List ℕ → List ℕ → List ℕ → Bool
is_sent reading h project branch commit = some_change reading h (λ c. is_for project branch c && has_commit commit c) (change_count h)

-- A commit is known in a branch where it is a base, or that of a patch set of one of its changes.
abbrev pub is_known : Reading → List Entry → List ℕ → List ℕ → List ℕ → Bool
is_known reading h project branch commit = is_base h project branch commit || is_sent reading h project branch commit
