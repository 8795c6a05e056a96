-- In a history of version 1 no project has a parent.
use Rattle.std.specs.{Option.option_map_or, Prelude.MatchOption, Prelude.option_and_then}
use Rattle.toml.specs.Data.{Data, Members, as_str, table, get}
use Rattle.{toml.specs.Parse.parse_document, review_file_document.specs.Limits.most_bytes}
use Rattle.review_words.specs.History.{asking_of, file_text, if_done, text_put}
use Rattle.review_words.specs.declared.command.Command.{Command}
use Rattle.review_words.specs.declared.command.Command.TheVariants.{CreateAccount, PutGroup, PutProject, RecordBase, CreateChange, OnChange, Submit, CloseEpoch}
use Rattle.review_words.specs.declared.faults.FileFault.TheVariants.{UnknownKey}
use Rattle.review_words.specs.declared.reply.{Answer.Answer, Refusal.Refusal, Refusal.TheVariants.BadFile, Reply.Reply}
use Rattle.review_words.specs.declared.reply.Reply.TheVariants.{Done, Refused, IdentityReused, EpochClosed, NotTaken}
use Rattle.review_sql_tables.proofs.Common.{◌≡◌, ◌&&◌, ℕ, List, [], ◌∷◌, codes, Option, Some, None, option_map, is_some, Bool, cond, true, false, not, refl, ap, AllByRecursion, length, nat_lt, bytes_eq}
use Rattle.review_file_rules.specs.Reading.{has_parent_key, named_parent}
use Rattle.review_file_rules.specs.Spelled.{parent_in, project_name}
use Rattle.review_machine_rows.specs.Answer.{IsAnswerIn, IsAnswerWithoutParents, refused_by}
use Rattle.review_machine_rows.specs.Changes.{placed}
use Rattle.review_sql_records.proofs.Common.{Entry, reading_of, IsHistory, own_of, file_without_parent}

-- a document without the key names no parent
unnamed : (d : Data) → is_some (get (codes "parent") d) ≡ false → parent_in d ≡ None
unnamed d none = by (get (codes "parent") d) none
  where
    by : (found : Option Data) → is_some found ≡ false → project_name (option_and_then as_str found) ≡ None
    by None is = refl
    by (Some x) is = absurd (cc)

no_parent : (text : List ℕ) → has_parent_key text ≡ false → named_parent text ≡ None
no_parent text none = by (nat_lt most_bytes (length text)) (parse_document text) none
  where
    by : (long : Bool) (d : Option Members) → (not long && option_map_or (λ ms. is_some (get (codes "parent") (table ms))) d false) ≡ false → cond long None (option_and_then (λ ms. parent_in (table ms)) d) ≡ None
    by true d none = refl
    by false None none = refl
    by false (Some ms) none = unnamed (table ms) none

-- what was refused for the key was not done
not_done : (o : Option Refusal) (a : Answer) → MatchOption o (Done a ≡ Refused (BadFile UnknownKey)) (λ r. Done a ≡ Refused r) → ⊥
not_done None a e = absurd (cc)
not_done (Some r) a e = absurd (cc)

-- a project whose text is put, and one whose text stays
stays_alone : (given text project : List ℕ) (before : Option (List ℕ)) → has_parent_key text ≡ false → placed before ≡ option_map file_without_parent before
    → placed (cond (bytes_eq given project) (Some text) before) ≡ option_map file_without_parent (cond (bytes_eq given project) (Some text) before)
stays_alone given text project before none was = by (bytes_eq given project)
  where
    by : (b : Bool) → placed (cond b (Some text) before) ≡ option_map file_without_parent (cond b (Some text) before)
    by true = ap (λ p. Some (record { text = text; parent = p })) (no_parent text none)
    by false = was

module _ (h : List Entry) (e : Entry) (first : e.version ≡ 1) (history : IsHistory (e ∷ h)) (project : List ℕ) (was : placed (file_text h project) ≡ option_map file_without_parent (file_text h project)) where
  abbrev before : Option (List ℕ)
  before = file_text h project

  keyless : (given text : List ℕ) (a : Answer) → IsAnswerIn h (asking_of e) (PutProject given text) (Done a) → has_parent_key text ≡ false
  keyless given text a answer = by (has_parent_key text) refl
    where
      by : (b : Bool) → has_parent_key text ≡ b → b ≡ false
      by false is = refl
      by true is =
          let it : IsAnswerWithoutParents h e.identity.caller (PutProject given text) (Done a) = rw (first, is) at answer in
          let read = reading_of h history.3 in
          absurd (not_done (refused_by read.0 h e.identity.caller (PutProject given text)) a (it read.0 read.1))

  next : (reply : Reply) (command : Command) → IsAnswerIn h (asking_of e) command reply → placed (text_put (if_done reply command) project before) ≡ option_map file_without_parent (text_put (if_done reply command) project before)
  next (Done a) (CreateAccount name) answer = was
  next (Done a) (PutGroup group members) answer = was
  next (Done a) (PutProject given text) answer = stays_alone given text project before (keyless given text a answer) was
  next (Done a) (RecordBase p branch commit) answer = was
  next (Done a) (CreateChange new) answer = was
  next (Done a) (OnChange n request) answer = was
  next (Done a) (Submit n) answer = was
  next (Done a) (CloseEpoch epoch) answer = was
  next (Refused r) command answer = was
  next IdentityReused command answer = was
  next EpochClosed command answer = was
  next (NotTaken cause) command answer = was

pub no_parents : (h : List Entry) → IsHistory h → AllByRecursion (λ e. e.version ≡ 1) h → (project : List ℕ) → own_of h project ≡ option_map file_without_parent (file_text h project)
no_parents [] history first project = refl
no_parents (e ∷ h) history first project = next h e first.0 history project (no_parents h history.3 first.1 project) e.reply e.command history.1
