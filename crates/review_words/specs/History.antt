-- Histories of taken requests, the newest first, and the settings that they leave.
use Rattle.std.specs.List.{list_any}
use Rattle.std.specs.Prelude.{ℕ, ◌+◌, ◌≡◌, List, [], ◌∷◌, ◌++◌, length, Option, Some, None, Bool, false, ◌&&◌, ◌||◌, ◌==◌, nat_le, nat_lt, if◌then◌else◌, is_some}
use Rattle.{std.specs.Str.bytes_eq, review_names.specs.Names.administrators, review_names.specs.Names.admin_name}
use Rattle.review_words.specs.declared.command.Command.{Command}
use Rattle.review_words.specs.declared.command.Command.TheVariants.{CreateAccount, PutGroup, PutProject, RecordBase, CloseEpoch}
use Rattle.review_words.specs.declared.reply.Reply.{Reply, TheVariants.Done}

-- what makes two writes the same request
pub record Identity : Type 0 where
  pub caller : ℕ
  pub epoch : ℕ
  pub id : List ℕ

-- the caller, the epoch and the id agree
abbrev pub is_same : Identity → Identity → Bool
is_same a b = (a.caller == b.caller) && ((a.epoch == b.epoch) && bytes_eq a.id b.id)

-- a request that was taken, with its reply, and the version of the rules that answered it
pub record Entry : Type 0 where
  pub identity : Identity
  pub version : ℕ
  pub command : Command
  pub reply : Reply

-- what an answer may depend on, beside the command and what went before: who asked, in which epoch, and the version of the rules that answered
pub record Asking : Type 0 where
  pub caller : ℕ
  pub epoch : ℕ
  pub version : ℕ

-- the asking of an entry
abbrev pub asking_of : Entry → Asking
asking_of e = record { caller = e.identity.caller; epoch = e.identity.epoch; version = e.version }

-- the latest version of the rules, which answer requests from now on; in version 1 projects had no parents
abbrev pub latest : ℕ
latest = 2

-- a request that is taken from now on, as an entry
abbrev pub entry_of : ℕ → ℕ → List ℕ → Command → Reply → Entry
entry_of caller epoch id command reply = record { identity = record { caller = caller; epoch = epoch; id = id }; version = latest; command = command; reply = reply }

-- the version of the newest entry; the first version where there is none
abbrev pub version_of : List Entry → ℕ
version_of [] = 1
version_of (e ∷ h) = e.version

-- the version of an entry may follow a history: it is not below that of the newest entry, nor beyond the latest
abbrev pub may_follow : List Entry → ℕ → Bool
may_follow h version = nat_le (version_of h) version && nat_le version latest

-- the command, where its reply says that it was done
abbrev pub if_done : Reply → Command → Option Command
if_done (Done answer) command = Some command
if_done _ command = None

-- the command of an entry, where it was accepted
abbrev pub accepted : Entry → Option Command
accepted e = if_done e.reply e.command

-- the entry of an identity
abbrev pub stored : List Entry → Identity → Option Entry
stored [] i = None
stored (e ∷ h) i = if is_same e.identity i then Some e else stored h i

-- the least open epoch, once this command is done
abbrev pub raised : Option Command → ℕ → ℕ
raised (Some (CloseEpoch epoch)) least = if nat_lt least epoch then epoch else least
raised _ least = least

-- the least open epoch: the greatest that an accepted CloseEpoch named, so that none ever opens again; 0 where there is none
abbrev pub least_open : List Entry → ℕ
least_open [] = 0
least_open (e ∷ h) = raised (accepted e) (least_open h)

-- whether an epoch is closed: it is below the least open one
abbrev pub is_closed : List Entry → ℕ → Bool
is_closed h epoch = nat_lt epoch (least_open h)

-- no entry of the history has this identity, and its epoch is open
abbrev pub IsFirst : List Entry → Identity → Type 0
IsFirst h i = (stored h i ≡ None) × (is_closed h i.epoch ≡ false)

-- one account more, where the command makes one
abbrev pub counted : Option Command → ℕ → ℕ
counted (Some (CreateAccount name)) n = n + 1
counted _ n = n

-- how many accounts there are: account 1 is there from the start, and each accepted CreateAccount makes the next
abbrev pub account_count : List Entry → ℕ
account_count [] = 1
account_count (e ∷ h) = counted (accepted e) (account_count h)

-- the name of a number, once this command is done
abbrev pub named : Option Command → ℕ → ℕ → Option (List ℕ) → Option (List ℕ)
named (Some (CreateAccount name)) number next before = if number == next then Some name else before
named _ number next before = before

-- the name of an account; account 1 is `admin`
abbrev pub name_of : List Entry → ℕ → Option (List ℕ)
name_of [] number = if number == 1 then Some admin_name else None
name_of (e ∷ h) number = named (accepted e) number (account_count h + 1) (name_of h number)

-- whether an account has the name, once this command is done
abbrev pub is_named : Option Command → List ℕ → Bool → Bool
is_named (Some (CreateAccount given)) name before = bytes_eq given name || before
is_named _ name before = before

-- whether an account has the name
abbrev pub name_taken : List Entry → List ℕ → Bool
name_taken [] name = bytes_eq admin_name name
name_taken (e ∷ h) name = is_named (accepted e) name (name_taken h name)

-- whether a number is that of an account
abbrev pub is_account : List Entry → ℕ → Bool
is_account h number = nat_le 1 number && nat_le number (account_count h)

-- the members of a group, once this command is done
abbrev pub put : Option Command → List ℕ → List ℕ → List ℕ
put (Some (PutGroup group members)) name before = if bytes_eq group name then members else before
put _ name before = before

-- the listed members of a group: those that its last accepted PutGroup gave, of Administrators at first account 1 (`Registered-Users`, which holds every account, is never put)
abbrev pub listed_members : List Entry → List ℕ → List ℕ
listed_members [] group = if bytes_eq administrators group then 1 ∷ [] else []
listed_members (e ∷ h) group = put (accepted e) group (listed_members h group)

-- whether an account is a listed member of a group
abbrev pub is_listed : List Entry → List ℕ → ℕ → Bool
is_listed h group number = list_any (λ m. m == number) (listed_members h group)

-- whether an account runs the desk
abbrev pub is_admin : List Entry → ℕ → Bool
is_admin h number = is_listed h administrators number

-- the text of a project, once this command is done
abbrev pub text_put : Option Command → List ℕ → Option (List ℕ) → Option (List ℕ)
text_put (Some (PutProject given file)) project before = if bytes_eq given project then Some file else before
text_put _ project before = before

-- the text of a project's file: the one that its last accepted PutProject gave
abbrev pub file_text : List Entry → List ℕ → Option (List ℕ)
file_text [] project = None
file_text (e ∷ h) project = text_put (accepted e) project (file_text h project)

-- whether a project has a file
abbrev pub is_project : List Entry → List ℕ → Bool
is_project h project = is_some (file_text h project)

-- how many projects there are, once this command is done
abbrev pub project_counted : Option Command → (List ℕ → Bool) → ℕ → ℕ
project_counted (Some (PutProject project file)) was_project n = if was_project project then n else n + 1
project_counted _ was_project n = n

-- how many projects there are: each accepted PutProject of a project that had no file makes one more
abbrev pub project_count : List Entry → ℕ
project_count [] = 0
project_count (e ∷ h) = project_counted (accepted e) (is_project h) (project_count h)

-- the bases of a branch, once this command is done
abbrev pub with_base : Option Command → List ℕ → List ℕ → List (List ℕ) → List (List ℕ)
with_base (Some (RecordBase in_project in_branch commit)) project branch before =
    if bytes_eq in_project project && bytes_eq in_branch branch then before ++ commit ∷ [] else before
with_base _ project branch before = before

-- the bases of a branch: the commits that were recorded for it, in the order of recording
abbrev pub bases : List Entry → List ℕ → List ℕ → List (List ℕ)
bases [] project branch = []
bases (e ∷ h) project branch = with_base (accepted e) project branch (bases h project branch)

-- how many bases a project has, once this command is done
abbrev pub base_counted : Option Command → List ℕ → ℕ → ℕ
base_counted (Some (RecordBase in_project branch commit)) project n = if bytes_eq in_project project then n + 1 else n
base_counted _ project n = n

-- how many bases a project has, over all its branches
abbrev pub base_count : List Entry → List ℕ → ℕ
base_count [] project = 0
base_count (e ∷ h) project = base_counted (accepted e) project (base_count h project)

-- whether a branch has a base
abbrev pub is_branch : List Entry → List ℕ → List ℕ → Bool
is_branch h project branch = nat_le 1 (length (bases h project branch))

-- whether a commit is a base of a branch
abbrev pub is_base : List Entry → List ℕ → List ℕ → List ℕ → Bool
is_base h project branch commit = list_any (λ base. bytes_eq base commit) (bases h project branch)
