-- The facts of a desk that checks ask: as a history says them, and as rows tell them.
use Rattle.std.specs.Prelude.{ℕ, ◌||◌, Bool, List, Option, is_some, nat_le, nat_lt, unwrap_or}
use Rattle.std.specs.Str.{bytes_eq}
use Rattle.review_names.specs.{Groups.has_account, Names.administrators, Names.registered_users}
use Rattle.review_words.specs.History.{Entry, account_count, base_count, is_account, is_admin, is_branch, is_project, least_open, name_taken}
use Rattle.review_file_rules.specs.Inherited.{no_file}
use Rattle.review_machine_rows.specs.Changes.{Reading, change, change_count, file_of, groups_of, is_known}
use Rattle.review_machine_rows.specs.{Facts.DeskFacts, Files.File}
use Rattle.review_machine_rows.specs.Known.{change_in, holder_of, is_so, is_there, known, number_of}
use Rattle.review_machine_rows.specs.{Limits.most_bases, declared.rows.Rows.Rows}
use Rattle.review_machine_rows.specs.declared.rows.Counted.TheVariants as counted
use Rattle.review_machine_rows.specs.declared.rows.Want.TheVariants as want

-- the facts of a desk after a history, by what is read of the texts that were put
abbrev pub facts_of : Reading → List Entry → DeskFacts
facts_of reading h = record {
  is_account = is_account h;
  is_admin = is_admin h;
  is_in = λ account group. has_account (groups_of h) group account;
  is_taken = name_taken h;
  accounts = account_count h;
  is_project = is_project h;
  file = file_of reading h;
  is_branch = is_branch h;
  has_room = λ project. nat_lt (base_count h project) most_bases;
  is_known = is_known reading h;
  change = change reading h;
  changes = change_count h;
  least_open = least_open h;
}

-- whether an account is known to be in a group
abbrev pub in_rows : Rows → ℕ → List ℕ → Bool
in_rows rows account group = bytes_eq group registered_users || is_so (known rows (want.Member (record { group = group; account = account })))

-- whether rows tell that a commit is known in a branch: as a base, or as that of a patch set
abbrev pub known_in : Rows → List ℕ → List ℕ → List ℕ → Bool
known_in rows project branch commit =
    is_so (known rows (want.Base (record { project = project; branch = branch; commit = commit })))
    || is_some (holder_of (known rows (want.ChangeOf (record { project = project; branch = branch; commit = commit }))))

-- the facts of a desk that rows tell, but for what files say; each says something only where its look-up was made
abbrev pub facts_in : Rows → DeskFacts
facts_in rows = record {
  is_account = λ account. is_there (known rows (want.Account account));
  is_admin = λ account. is_so (known rows (want.Member (record { group = administrators; account = account })));
  is_in = in_rows rows;
  is_taken = λ name. is_some (holder_of (known rows (want.AccountNamed name)));
  accounts = number_of (known rows want.LastAccount);
  is_project = λ project. is_so (known rows (want.Project project));
  file = λ project. no_file;
  is_branch = λ project branch. nat_le 1 (number_of (known rows (want.LastPlace (record { project = project; branch = branch }))));
  has_room = λ project. is_so (known rows (want.Room (counted.BasesOf project)));
  is_known = known_in rows;
  change = λ n. change_in (known rows (want.Change n));
  changes = number_of (known rows want.LastChange);
  least_open = number_of (known rows want.LeastEpoch);
}

-- the facts that rows tell and the file of the project by which a command is judged, where one was read: that project is there where it has a file
abbrev pub facts_by : Rows → Option File → DeskFacts
facts_by rows file = record (facts_in rows) { is_project = λ project. is_some file; file = λ project. unwrap_or file no_file }
