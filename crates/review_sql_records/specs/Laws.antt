-- The laws of the tables.
use Rattle.std.proofs.Common.{◌≡◌, ◌&&◌, nat_le, ℕ, pos, negsuc, List, [], ◌∷◌, Option, Some, None, Bool, true, refl, ap, sym, subst, inl, inr}
use Rattle.std.proofs.lemmas.Bool.{and_parts, and_from, cases_Bool}
use Rattle.std.proofs.lemmas.{Cmp.nat_cmp_total, Cmp.tied_itself, Map.Lookups.exact_unsigned, Option.same_Some}
use Rattle.std.proofs.lemmas.Str.{IsUtf8-from_ascii, is_utf8-from_IsUtf8, Ascii.IsAscii-nil}
use Rattle.std.specs.{Ordering.nat_cmp, Ordering.is_eq, Str.is_utf8}
use Rattle.sqlite_value.specs.{Order.column, declared.value.Value.Value}
use Rattle.sqlite_value.specs.declared.value.Value.TheVariants.{Null, Int, Real, Text, Blob}
use Rattle.review_names.specs.Forms.{is_commit, is_slashed_name, is_step}
use Rattle.review_names.specs.Names.{is_word, is_account_number}
use Rattle.review_sql_tables.proofs.Keys.{equal_is, int_is, itself, same_int, same_text, text_is}
use Rattle.review_sql_tables.proofs.Single.{at_place, by_rowid}
use Rattle.review_sql_tables.proofs.TextsOfChanges.{delete_account, delete_answer, delete_base, delete_desk, delete_epochs, delete_member, delete_project, insert_account, insert_answer, insert_base, insert_desk, insert_epochs, insert_member, insert_project}
use Rattle.review_sql_tables.specs.{Content.is_value, Record.Records}
use Rattle.review_sql_tables.specs.Search.{number_in, text_in, IsExact, IsFront, IsLawful}
use Rattle.review_sql_tables.specs.declared.table.Sets.TheVariants.{PutsIn, Replaces}
use Rattle.review_machine_rows.specs.declared.rows.{MemberKey.MemberKey, PlaceKey.PlaceKey, StoredFile.StoredFile}
use Rattle.review_sql_records.specs.Forms.{where_is, alone, both, member_parts, group_members, base_parts, branch_bases, accounts, account_form, members, member_form, projects, project_form, stored_parent, parent_text, is_parent, stored_file, bases, base_form, answers, answer_form, epochs, epochs_form, desk, desk_form, is_natural, is_number, is_small, is_text}
use Rattle.review_sql_records.specs.declared.rows.{Answered.Answered, DeskRow.DeskRow, RequestKey.RequestKey}
use Rattle.review_sql_tables.specs.Desk as table
use Rattle.review_sql_tables.specs.declared.texts.TheConstants as texts

-- a value that has a number of a kind is one of that kind
pub keyed_number : (test : ℕ → Bool) (v : Value) (n : ℕ) → test n ≡ true → is_value v (Int (pos n)) ≡ true → is_number test v ≡ true
keyed_number test v n good has = let is = int_is v (pos n) has in rw (is, good) refl

-- a value that has a number is one
pub keyed_natural : (v : Value) (n : ℕ) → is_value v (Int (pos n)) ≡ true → is_natural v ≡ true
keyed_natural v n has = let is = int_is v (pos n) has in rw is refl

-- a value that has a text is one
pub keyed_text : (v : Value) (t : List ℕ) → is_value v (Text t) ≡ true → is_text v ≡ true
keyed_text v t has = let is = text_is v t has in rw is refl

-- a text of a form reads as itself
pub reads_text : (form : List ℕ → Bool) (t : List ℕ) → (is_utf8 t && form t) ≡ true → where_is form (text_in (Text t)) ≡ Some t
reads_text form t good = let parts = and_parts (is_utf8 t) (form t) good in rw (parts.0, parts.1) refl

pub account_lawful : IsLawful accounts account_form
account_lawful = record {
  keyed = λ number name id. ap (λ b. b && true) (itself (Int (pos number)));
  reads_back = λ number name id good. reads_text is_word name good;
  exact = λ a b r p q. same_int (column r 0) a b (and_parts _ _ p).0 (and_parts _ _ q).0;
  known = λ a r formed has. keyed_number is_account_number (column r 0) a formed (and_parts _ _ has).0;
}

pub member_lawful : IsLawful members member_form
member_lawful = record {
  keyed = λ m row id. (λ i. itself (Text m.group) i && (itself (Int (pos m.account)) i && true));
  reads_back = λ m row id good. refl;
  exact = λ a b r p q.
      let one = and_parts _ _ p in
      let two = and_parts _ _ q in
      let group : a.group ≡ b.group = same_text (column r 1) a.group b.group one.0 two.0 in
      let account : a.account ≡ b.account = same_int (column r 2) a.account b.account (and_parts _ _ one.1).0 (and_parts _ _ two.1).0 in
      (λ i. record { group = group i; account = account i });
  known = λ a r formed has.
      let one = and_parts _ _ has in
      and_from _ _ (keyed_text (column r 1) a.group one.0) (keyed_number is_account_number (column r 2) a.account formed (and_parts _ _ one.1).0);
}

-- the empty text reads as itself
pub no_text : text_in (Text []) ≡ Some []
no_text = rw (is_utf8-from_IsUtf8 [] (IsUtf8-from_ascii [] IsAscii-nil)) refl

reads_plain : (t : List ℕ) → is_utf8 t ≡ true → text_in (Text t) ≡ Some t
reads_plain t good = rw good refl

-- no project has the empty name
never_empty : is_slashed_name [] ≡ true → ⊥
unfolding is_slashed_name is_step
never_empty is = cc

-- a parent reads as itself
pub reads_parent : (parent : Option (List ℕ)) → is_parent parent ≡ true → stored_parent (text_in (Text (parent_text parent))) ≡ Some parent
reads_parent None good = ap stored_parent no_text
reads_parent (Some []) good = absurd (never_empty (and_parts (is_utf8 []) (is_slashed_name []) good).1)
reads_parent (Some (b ∷ name)) good = let parts = and_parts (is_utf8 (b ∷ name)) (is_slashed_name (b ∷ name)) good in rw (parts.0, parts.1) refl

pub project_lawful : IsLawful projects project_form
project_lawful = record {
  keyed = λ project file id. ap (λ b. b && true) (itself (Text project));
  reads_back = λ project file id good.
      let parts = and_parts (is_utf8 file.text) (is_parent file.parent) good in
      (λ i. stored_file (reads_plain file.text parts.0 i) (reads_parent file.parent parts.1 i));
  exact = λ a b r p q. same_text (column r 1) a b (and_parts _ _ p).0 (and_parts _ _ q).0;
  known = λ a r formed has. keyed_text (column r 1) a (and_parts _ _ has).0;
}

pub base_lawful : IsLawful bases base_form
base_lawful = record {
  keyed = λ b commit id. (λ i. itself (Text b.project) i && (itself (Text b.branch) i && (itself (Int (pos b.place)) i && true)));
  reads_back = λ b commit id good. reads_text is_commit commit good;
  exact = λ a b r p q.
      let one = and_parts _ _ p in
      let two = and_parts _ _ q in
      let one_more = and_parts _ _ one.1 in
      let two_more = and_parts _ _ two.1 in
      let project : a.project ≡ b.project = same_text (column r 1) a.project b.project one.0 two.0 in
      let branch : a.branch ≡ b.branch = same_text (column r 2) a.branch b.branch one_more.0 two_more.0 in
      let place : a.place ≡ b.place = same_int (column r 3) a.place b.place (and_parts _ _ one_more.1).0 (and_parts _ _ two_more.1).0 in
      (λ i. record { project = project i; branch = branch i; place = place i });
  known = λ a r formed has.
      let one = and_parts _ _ has in
      let two = and_parts _ _ one.1 in
      and_from _ _ (keyed_text (column r 1) a.project one.0) (and_from _ _ (keyed_text (column r 2) a.branch two.0) (keyed_number is_small (column r 3) a.place formed (and_parts _ _ two.1).0));
}

pub answer_lawful : IsLawful answers answer_form
answer_lawful = record {
  keyed = λ i a id. (λ k. itself (Int (pos i.caller)) k && (itself (Int (pos i.epoch)) k && (itself (Text i.id) k && true)));
  reads_back = λ i a id good. let parts = and_parts (is_utf8 a.content) (is_utf8 a.reply) good in rw (parts.0, parts.1) refl;
  exact = λ a b r p q.
      let one = and_parts _ _ p in
      let two = and_parts _ _ q in
      let one_more = and_parts _ _ one.1 in
      let two_more = and_parts _ _ two.1 in
      let caller : a.caller ≡ b.caller = same_int (column r 1) a.caller b.caller one.0 two.0 in
      let epoch : a.epoch ≡ b.epoch = same_int (column r 2) a.epoch b.epoch one_more.0 two_more.0 in
      let id : a.id ≡ b.id = same_text (column r 3) a.id b.id (and_parts _ _ one_more.1).0 (and_parts _ _ two_more.1).0 in
      (λ k. record { caller = caller k; epoch = epoch k; id = id k });
  known = λ a r formed has.
      let one = and_parts _ _ has in
      let two = and_parts _ _ one.1 in
      and_from _ _ (keyed_natural (column r 1) a.caller one.0) (and_from _ _ (keyed_natural (column r 2) a.epoch two.0) (keyed_text (column r 3) a.id (and_parts _ _ two.1).0));
}

pub epochs_lawful : IsLawful epochs epochs_form
epochs_lawful = record { keyed = λ u least id. refl; reads_back = λ u least id good. rw good refl; exact = λ a b r p q. refl; known = λ u r formed has. refl }

pub desk_lawful : IsLawful desk desk_form
desk_lawful = record { keyed = λ u d id. refl; reads_back = λ u d id good. refl; exact = λ a b r p q. refl; known = λ u r formed has. refl }

-- ---- what the texts of the tables mean

-- what is replaced isn't put in whatever is there
pub never_put_in : Replaces ≡ PutsIn → ⊥
never_put_in is = cc

abbrev pub account_table : Records ℕ (List ℕ)
account_table = record {
  writes = record { sets = PutsIn; insert = texts.INSERT_ACCOUNT.now; delete = texts.DELETE_ACCOUNT.now };
  search = accounts;
  form = account_form;
  inserts = λ number name. insert_account (pos number) name;
  deletes = λ number. delete_account (pos number);
  keeps = account_lawful;
  single = λ is db ready number. by_rowid table.accounts.tree (pos number) refl db ready;
}

abbrev pub answer_table : Records RequestKey Answered
answer_table = record {
  writes = record { sets = PutsIn; insert = texts.INSERT_ANSWER.now; delete = texts.DELETE_ANSWER.now };
  search = answers;
  form = answer_form;
  inserts = λ i a. insert_answer (pos i.caller) (pos i.epoch) i.id (pos a.request) a.content a.reply;
  deletes = λ i. delete_answer (pos i.caller) (pos i.epoch) i.id;
  keeps = answer_lawful;
  single = λ is db ready i. at_place 11 table.answers_3 (answers.at i) refl refl refl (refl, (refl, (refl, tt))) db ready;
}

abbrev pub base_table : Records PlaceKey (List ℕ)
base_table = record {
  writes = record { sets = PutsIn; insert = texts.INSERT_BASE.now; delete = texts.DELETE_BASE.now };
  search = bases;
  form = base_form;
  inserts = λ b commit. insert_base b.project b.branch (pos b.place) commit;
  deletes = λ b. delete_base b.project b.branch (pos b.place);
  keeps = base_lawful;
  single = λ is db ready b. at_place 2 table.bases (bases.at b) refl refl refl (refl, (refl, (refl, tt))) db ready;
}

abbrev pub desk_table : Records (Unit {0}) DeskRow
desk_table = record {
  writes = record { sets = Replaces; insert = texts.INSERT_DESK.now; delete = texts.DELETE_DESK.now };
  search = desk;
  form = desk_form;
  inserts = λ _ d. insert_desk (pos d.version) (pos d.requests);
  deletes = λ _. delete_desk;
  keeps = desk_lawful;
  single = λ is. absurd (never_put_in is);
}

abbrev pub epochs_table : Records (Unit {0}) ℕ
epochs_table = record {
  writes = record { sets = Replaces; insert = texts.INSERT_EPOCHS.now; delete = texts.DELETE_EPOCHS.now };
  search = epochs;
  form = epochs_form;
  inserts = λ _ least. insert_epochs (pos least);
  deletes = λ _. delete_epochs;
  keeps = epochs_lawful;
  single = λ is. absurd (never_put_in is);
}

abbrev pub member_table : Records MemberKey (Unit {0})
member_table = record {
  writes = record { sets = PutsIn; insert = texts.INSERT_MEMBER.now; delete = texts.DELETE_MEMBER.now };
  search = members;
  form = member_form;
  inserts = λ m row. insert_member m.group (pos m.account);
  deletes = λ m. delete_member m.group (pos m.account);
  keeps = member_lawful;
  single = λ is db ready m. at_place 1 table.members (members.at m) refl refl refl (refl, (refl, tt)) db ready;
}

abbrev pub project_table : Records (List ℕ) StoredFile
project_table = record {
  writes = record { sets = Replaces; insert = texts.INSERT_PROJECT.now; delete = texts.DELETE_PROJECT.now };
  search = projects;
  form = project_form;
  inserts = λ project file. insert_project project file.text (parent_text file.parent);
  deletes = delete_project;
  keeps = project_lawful;
  single = λ is db ready project. at_place 10 table.projects_2 (projects.at project) refl refl refl (refl, tt) db ready;
}

-- ---- the rows of an owner

-- the number that a value reads as
pub number_is : (v : Value) (n : ℕ) → number_in v ≡ Some n → v ≡ Int (pos n)
number_is Null n is = absurd (cc)
number_is (Int (pos m)) n is = let e : m ≡ n = cc in ap (λ k. Int (pos k)) e
number_is (Int (negsuc m)) n is = absurd (cc)
number_is (Real x) n is = absurd (cc)
number_is (Text t) n is = absurd (cc)
number_is (Blob b) n is = absurd (cc)

-- what passes a test is what it was
pub passed : {X : Type 0} (test : X → Bool) (o : Option X) (x : X) → where_is test o ≡ Some x → o ≡ Some x
passed test None x is = absurd (cc)
passed test (Some y) x is = elim (cases_Bool (test y)) [ inl pass ↦ (let e = rw pass at is in e) | inr other ↦ absurd (let e = rw other at is in cc) ]

pub numbers_exact : IsExact nat_cmp
numbers_exact = record { same = λ a b is. exact_unsigned a b (equal_is _ is); itself = λ a. ap is_eq (tied_itself nat_cmp_total a) }

alone_is : (o : Option ℕ) (n : ℕ) (u : Unit {0}) → alone o ≡ Some (n, u) → o ≡ Some n
alone_is None n u is = absurd (cc)
alone_is (Some m) n u is = ap (λ (e : ℕ × Unit {0}). Some e.0) (same_Some _ _ is)

pub both_are : {X Y : Type 0} (a : Option X) (b : Option Y) (x : X) (y : Y) → both a b ≡ Some (x, y) → (a ≡ Some x) × (b ≡ Some y)
both_are None b x y is = absurd (cc)
both_are (Some m) None x y is = absurd (cc)
both_are {X = X} {Y = Y} (Some m) (Some n) x y is = let e = same_Some _ _ is in (ap (λ (p : X × Y). Some p.0) e, ap (λ (p : X × Y). Some p.1) e)

-- a value that is a number has it as its key
pub at_number : (v : Value) (n : ℕ) → number_in v ≡ Some n → is_value v (Int (pos n)) ≡ true
at_number v n is = subst (λ w. is_value w (Int (pos n)) ≡ true) (sym (number_is v n is)) (itself (Int (pos n)))

pub one_number : (v : Value) (m n : ℕ) → number_in v ≡ Some m → is_value v (Int (pos n)) ≡ true → m ≡ n
one_number v m n is at = same_int v m n (at_number v m is) at

pub members_of_group : IsFront nat_cmp group_members member_parts
members_of_group = record {
  tree = refl;
  exact = numbers_exact;
  within = λ group n r h. and_from _ _ (and_parts _ _ h).0 refl;
  keyed = λ group n u r h is. and_from _ _ (and_parts _ _ h).0 (and_from _ _ (at_number (column r 2) n (passed is_account_number _ n (alone_is _ n u is))) refl);
  shows = λ group n u r is. refl;
  alone = λ group j n u r is h. one_number (column r 2) j n (passed is_account_number _ j (alone_is _ j u is)) (and_parts _ _ (and_parts _ _ h).1).0;
}

pub bases_of_branch : IsFront nat_cmp branch_bases base_parts
bases_of_branch = record {
  tree = refl;
  exact = numbers_exact;
  within = λ b n r h. let p = and_parts _ _ h in and_from _ _ p.0 (and_from _ _ (and_parts _ _ p.1).0 refl);
  keyed = λ b n commit r h is.
      let p = and_parts _ _ h in
      let it = both_are _ _ n commit is in
      and_from _ _ p.0 (and_from _ _ (and_parts _ _ p.1).0 (and_from _ _ (at_number (column r 3) n (passed (nat_le 1) _ n it.0)) refl));
  shows = λ b n commit r is. (both_are _ _ n commit is).1;
  alone = λ b j n commit r is h. one_number (column r 3) j n (passed (nat_le 1) _ j (both_are _ _ j commit is).0) (and_parts _ _ (and_parts _ _ (and_parts _ _ h).1).1).0;
}
