-- What bytes spell: names, JSON values, bodies, and the members of objects.
use Rattle.std.specs.Prelude.{ℕ, Bool, List, [], ◌∷◌, length, nat_le, if◌then◌else◌, Option, Some, None, option_map, option_and_then, ◌==◌}
use Rattle.std.specs.Str.{is_utf8}
use Rattle.serde_json.specs.Data.{Data, Items, no_items, item, object, no_members}
use Rattle.serde_json.specs.Find.{get, as_u64, as_number, as_str, as_bool, as_array, as_object}
use Rattle.serde_json.specs.Read.{read}
use Rattle.review_names.specs.Forms.{is_within, is_path, text_set, most_changes, most_paths}
use Rattle.review_names.specs.{Kinds.kind_named, Names.is_account_number, Names.set_of, Names.most_members}
use Rattle.{review_names.specs.declared.kinds.ChangeKind.ChangeKind, review_words.specs.Epochs.is_epoch}

-- the text of a member
unfoldable pub text_at : List ℕ → Data → Option (List ℕ)
text_at key d = option_and_then as_str (get key d)

-- the text, where it is of a form
abbrev pub formed : (List ℕ → Bool) → List ℕ → Option (List ℕ)
formed is_form text = if is_form text then Some text else None

-- the name of a member, which is a text of the name's form
unfoldable pub name_at : (List ℕ → Bool) → List ℕ → Data → Option (List ℕ)
name_at is_form key d = option_and_then (formed is_form) (text_at key d)

-- the number, where it is that of an account
abbrev pub account_from : ℕ → Option ℕ
account_from n = if is_account_number n then Some n else None

-- the account of a number
abbrev pub account_of : Data → Option ℕ
account_of d = option_and_then account_from (option_and_then as_u64 (as_number d))

-- the account of a member
unfoldable pub account_at : List ℕ → Data → Option ℕ
account_at key d = option_and_then account_of (get key d)

-- the accounts of a list, in its order
abbrev pub accounts_in : Items → Option (List ℕ)
accounts_in no_items = Some []
accounts_in (item d ds) = option_and_then (λ n. option_map (λ ns. n ∷ ns) (accounts_in ds)) (account_of d)

-- the set of some accounts, which has at most 1,024
abbrev pub members_from : List ℕ → Option (List ℕ)
members_from accounts = if nat_le (length (set_of accounts)) most_members then Some (set_of accounts) else None

-- the members of a group, a list of accounts in any order and with doubles
unfoldable pub members_at : List ℕ → Data → Option (List ℕ)
members_at key d = option_and_then members_from (option_and_then accounts_in (option_and_then as_array (get key d)))

-- what a member spells, or what stands for it where it is absent
abbrev pub or_absent : {X : Type 0} → X → (Data → Option X) → Option Data → Option X
or_absent absent spelled None = Some absent
or_absent absent spelled (Some d) = spelled d

-- what a member spells, if it is there
abbrev pub optional : {X : Type 0} → (Data → Option X) → Option Data → Option (Option X)
optional spelled = or_absent None (λ d. option_map (λ x. Some x) (spelled d))

-- the number, where it is from 1 to the greatest one
abbrev pub within : ℕ → ℕ → Option ℕ
within most n = if is_within most n then Some n else None

-- a whole number from 1 to the greatest one
abbrev pub number_of : ℕ → Data → Option ℕ
number_of most d = option_and_then (within most) (option_and_then as_u64 (as_number d))

-- the change of a member
unfoldable pub change_at : List ℕ → Data → Option ℕ
change_at key d = option_and_then (number_of most_changes) (get key d)

-- the number, where it is that of an epoch
abbrev pub epoch_from : ℕ → Option ℕ
epoch_from n = if is_epoch n then Some n else None

-- the epoch of a number
abbrev pub epoch_of : Data → Option ℕ
epoch_of d = option_and_then epoch_from (option_and_then as_u64 (as_number d))

-- the epoch of a member
unfoldable pub epoch_at : List ℕ → Data → Option ℕ
epoch_at key d = option_and_then epoch_of (get key d)

-- the epoch of a member, the first one where it is absent
unfoldable pub epoch_or_first : List ℕ → Data → Option ℕ
epoch_or_first key d = or_absent 0 epoch_of (get key d)

-- a truth value, if the member is there
unfoldable pub flag_at : List ℕ → Data → Option (Option Bool)
flag_at key d = optional as_bool (get key d)

-- the kind of a patch set, whose name a member is
unfoldable pub kind_at : List ℕ → Data → Option ChangeKind
kind_at key d = option_and_then kind_named (text_at key d)

-- a path
abbrev pub path_of : Data → Option (List ℕ)
path_of d = option_and_then (formed is_path) (as_str d)

-- the paths of a list, in its order
abbrev pub paths_in : Items → Option (List (List ℕ))
paths_in no_items = Some []
paths_in (item d ds) = option_and_then (λ path. option_map (λ paths. path ∷ paths) (paths_in ds)) (path_of d)

-- the set of some paths, which has at most 500
abbrev pub paths_from : List (List ℕ) → Option (List (List ℕ))
paths_from paths = if nat_le (length (text_set paths)) most_paths then Some (text_set paths) else None

-- the paths of a patch set, a list of texts in any order and with doubles
unfoldable pub paths_at : List ℕ → Data → Option (List (List ℕ))
paths_at key d = option_and_then paths_from (option_and_then paths_in (option_and_then as_array (get key d)))

-- the bytes, where they are a text in UTF-8
abbrev pub text_of : List ℕ → Option (List ℕ)
text_of bytes = if is_utf8 bytes then Some bytes else None

-- the bytes, where they are a text of a form
unfoldable pub name_of_bytes : (List ℕ → Bool) → List ℕ → Option (List ℕ)
name_of_bytes is_form bytes = option_and_then (formed is_form) (text_of bytes)

-- the value of a text in UTF-8
unfoldable pub value_spelled : List ℕ → Option Data
value_spelled bytes = option_and_then read (text_of bytes)

-- the value, where it is an object
abbrev pub if_object : Data → Option Data
if_object d = option_map (λ _. d) (as_object d)

-- the object that a body is, `{}` where it is empty
unfoldable pub body_spelled : List ℕ → Option Data
body_spelled bytes = if length bytes == 0 then Some (object no_members) else option_and_then if_object (value_spelled bytes)
