-- The laws of the tables of changes.
use Rattle.std.proofs.Common.{refl, ℤ, ◌≡◌, nat_lt, ℕ, List, ◌∷◌, true, Some, pos, Bool, false, suc, zero, Option, None, ◌&&◌, ap, ◌∙◌, inl, inr, sym, subst, is_some}
use Rattle.std.proofs.lemmas.Bool.{ltb-true, and_parts, and_from, cases_Bool}
use Rattle.std.proofs.lemmas.Cmp.{nat_cmp_total, tied_itself, nat_list_cmp_total}
use Rattle.std.proofs.lemmas.Map.Lookups.{exact_bytes, exact_unsigned}
use Rattle.std.proofs.lemmas.{Map.Text.is_eq-slice_cmp, Option.same_Some}
use Rattle.std.proofs.lemmas.Str.{IsUtf8-from_ascii, is_utf8-from_IsUtf8, Ascii.IsAscii-cons, Ascii.IsAscii-nil}
use Rattle.std.specs.{Cmp.Lexicographic.slice_cmp, List.list_all}
use Rattle.std.specs.Ordering.{nat_cmp, is_eq, ordering_then}
use Rattle.std.specs.{Prelude.[], Str.IsAscii, Str.is_utf8, Str.bytes_eq, declared.cmp.Ordering.Ordering}
use Rattle.std.specs.declared.cmp.Ordering.TheVariants.{Less, Equal, Greater}
use Rattle.sqlite_value.specs.Order.{column, value_cmp}
use Rattle.sqlite_value.specs.declared.value.Value.{Value, TheVariants.Text, TheVariants.Int}
use Rattle.review_names.specs.Forms.{is_within, is_line, is_slashed_name, most_changes, is_commit, most_patches, is_message, is_place, most_comments, is_label}
use Rattle.review_names.specs.Kinds.{kind_name, kind_named}
use Rattle.review_names.specs.{Names.is_account_number, declared.kinds.ChangeKind.ChangeKind}
use Rattle.review_words.specs.{States.state_name, States.state_named, Texts.role_name, Texts.role_named}
use Rattle.review_words.specs.declared.changes.Role.{Role, TheVariants.Reviewer, TheVariants.Cc}
use Rattle.review_words.specs.declared.shown.State.{State, TheVariants.New, TheVariants.Merged, TheVariants.Abandoned}
use Rattle.review_sql_tables.proofs.Keys.{itself, same_int, equal_is, same_text, text_is as stored_text}
use Rattle.review_sql_tables.proofs.Single.{at_place}
use Rattle.review_sql_tables.proofs.TextsOfChanges.{delete_attention, delete_change, delete_comment, delete_patch, delete_reviewer, delete_vote, insert_attention, insert_change, insert_comment, insert_patch, insert_reviewer, insert_vote}
use Rattle.review_sql_tables.specs.{Content.is_value, Record.Records}
use Rattle.review_sql_tables.specs.Search.{text_in, number_in, IsFront, IsExact, IsLawful}
use Rattle.review_sql_tables.specs.declared.table.Sets.TheVariants.{PutsIn, Replaces}
use Rattle.review_core_rules.specs.Seen.{vote_cmp}
use Rattle.review_core_rules.specs.declared.rows.{AttentionEntry.AttentionEntry, CommentRow.CommentRow, Header.Header}
use Rattle.review_core_rules.specs.declared.rows.{PatchRow.PatchRow, VoteKey.VoteKey}
use Rattle.review_sql_records.specs.Forms.{where_is, is_small, is_number}
use Rattle.review_sql_records.specs.Laws.{never_put_in, keyed_number, reads_text, at_number, both_are, numbers_exact, one_number, passed}
use Rattle.review_sql_change_records.specs.Forms.{patches, votes, roles, comments, attention_entries, named, flag_number, flagged, answered, answers_number, is_answer, header_form, headers, patch_form, change_patches, role_form, change_roles, attention_form, change_attention, comment_form, change_comments, vote_key, vote_form, change_votes, are_same, were_read, are_read_back, paths_in, paths_text}
use Rattle.review_sql_tables.specs.Desk as table
use Rattle.review_sql_tables.specs.declared.texts.TheConstants as texts
use Rattle.review_names.specs.declared.kinds.ChangeKind.TheVariants as kind

-- ---- values

ascii_all : (s : List ℕ) → list_all (λ b. nat_lt b 128) s ≡ true → IsAscii s
ascii_all [] is = IsAscii-nil
ascii_all (b ∷ s) is = let p = and_parts _ _ is in IsAscii-cons b s (ltb-true b 128 p.0) (ascii_all s p.1)

ascii : (s : List ℕ) → list_all (λ b. nat_lt b 128) s ≡ true → is_utf8 s ≡ true
ascii s is = is_utf8-from_IsUtf8 s (IsUtf8-from_ascii s (ascii_all s is))

reads_state : (s : State) → named state_named (text_in (Text (state_name s))) ≡ Some s
unfolding state_named
reads_state New = rw (ascii (state_name New) refl) refl
reads_state Merged = rw (ascii (state_name Merged) refl) refl
reads_state Abandoned = rw (ascii (state_name Abandoned) refl) refl

reads_role : (r : Role) → named role_named (text_in (Text (role_name r))) ≡ Some r
unfolding role_named
reads_role Reviewer = rw (ascii (role_name Reviewer) refl) refl
reads_role Cc = rw (ascii (role_name Cc) refl) refl

reads_flag : (b : Bool) → flagged (number_in (Int (pos (flag_number b)))) ≡ Some b
reads_flag false = refl
reads_flag true = refl

reads_answer : (o : Option ℕ) → is_answer o ≡ true → answered (number_in (Int (pos (answers_number o)))) ≡ Some o
unfolding is_within
reads_answer None good = refl
reads_answer (Some zero) good = absurd (cc)
reads_answer (Some (suc k)) good = rw good refl

-- ---- headers

pub header_lawful : IsLawful headers header_form
header_lawful = record {
  keyed = λ number h id. ap (λ b. b && true) (itself (Int (pos number)));
  reads_back = λ number h id good.
      let one = and_parts _ _ good in
      let two = and_parts _ _ one.1 in
      let three = and_parts _ _ two.1 in
      let four = and_parts _ _ three.1 in
      let owner : is_account_number h.owner ≡ true = four.0 in
      let place : is_small h.place ≡ true = four.1 in
      rw (reads_text is_slashed_name h.project one.0, reads_text is_slashed_name h.branch two.0, reads_text is_line h.subject three.0, owner, place, reads_state h.state, reads_flag h.wip) refl;
  exact = λ a b r p q. same_int (column r 0) a b (and_parts _ _ p).0 (and_parts _ _ q).0;
  known = λ a r formed has. keyed_number (is_within most_changes) (column r 0) a formed (and_parts _ _ has).0;
}

-- ---- patch sets

reads_kind : (k : ChangeKind) → named kind_named (text_in (Text (kind_name k))) ≡ Some k
unfolding kind_named
reads_kind kind.NoChange = rw (ascii (kind_name kind.NoChange) refl) refl
reads_kind kind.NoCodeChange = rw (ascii (kind_name kind.NoCodeChange) refl) refl
reads_kind kind.TrivialRebase = rw (ascii (kind_name kind.TrivialRebase) refl) refl
reads_kind kind.TrivialRebaseWithMessageUpdate = rw (ascii (kind_name kind.TrivialRebaseWithMessageUpdate) refl) refl
reads_kind kind.MergeFirstParentUpdate = rw (ascii (kind_name kind.MergeFirstParentUpdate) refl) refl
reads_kind kind.Rework = rw (ascii (kind_name kind.Rework) refl) refl

pub same_bytes : (s t : List ℕ) → bytes_eq s t ≡ true → s ≡ t
same_bytes s t is = exact_bytes s t (equal_is (slice_cmp nat_cmp s t) (is_eq-slice_cmp s t ∙ is))

same_paths : (some others : List (List ℕ)) → are_same some others ≡ true → some ≡ others
same_paths [] [] is = refl
same_paths [] (q ∷ qs) is = absurd (cc)
same_paths (p ∷ ps) [] is = absurd (cc)
same_paths (p ∷ ps) (q ∷ qs) is = let it = and_parts _ _ is in let first = same_bytes p q it.0 in let later = same_paths ps qs it.1 in (λ i. first i ∷ later i)

back_from : (read : Option (List (List ℕ))) (paths : List (List ℕ)) → were_read read paths ≡ true → read ≡ Some paths
back_from None paths is = absurd (cc)
back_from (Some read) paths is = ap Some (same_paths read paths is)

reads_paths : (paths : List (List ℕ)) → (is_utf8 (paths_text paths) && are_read_back paths) ≡ true → named paths_in (text_in (Text (paths_text paths))) ≡ Some paths
reads_paths paths good =
    let it = and_parts _ _ good in
    let whole : is_utf8 (paths_text paths) ≡ true = it.0 in
    rw whole (back_from (paths_in (paths_text paths)) paths it.1)

-- ---- two keys

two_keyed : (a b : ℕ) → (is_eq (value_cmp (Int (pos a)) (Int (pos a))) && (is_eq (value_cmp (Int (pos b)) (Int (pos b))) && true)) ≡ true
two_keyed a b = (λ i. itself (Int (pos a)) i && (itself (Int (pos b)) i && true))

two_known : (test : ℕ → Bool) (v w : Value) (a : ℕ × ℕ) → (is_within most_changes a.0 && test a.1) ≡ true → (is_value v (Int (pos a.0)) && (is_value w (Int (pos a.1)) && true)) ≡ true → (is_number (is_within most_changes) v && is_number test w) ≡ true
two_known test v w a formed has =
    let good = and_parts _ _ formed in
    let one = and_parts _ _ has in
    and_from _ _ (keyed_number (is_within most_changes) v a.0 good.0 one.0) (keyed_number test w a.1 good.1 (and_parts _ _ one.1).0)

two_exact : (v w : Value) (a b : ℕ × ℕ) → (is_value v (Int (pos a.0)) && (is_value w (Int (pos a.1)) && true)) ≡ true → (is_value v (Int (pos b.0)) && (is_value w (Int (pos b.1)) && true)) ≡ true → a ≡ b
two_exact v w a b p q =
    let one = and_parts _ _ p in
    let two = and_parts _ _ q in
    let first : a.0 ≡ b.0 = same_int v a.0 b.0 one.0 two.0 in
    let second : a.1 ≡ b.1 = same_int w a.1 b.1 (and_parts _ _ one.1).0 (and_parts _ _ two.1).0 in
    (λ i. (first i, second i))

pub patch_lawful : IsLawful patches patch_form
patch_lawful = record {
  keyed = λ p x id. two_keyed p.0 p.1;
  reads_back = λ p x id good.
      let one = and_parts _ _ good in
      let two = and_parts _ _ one.1 in
      let three = and_parts _ _ two.1 in
      let uploader : is_account_number x.uploader ≡ true = three.0 in
      rw (reads_text is_commit x.commit one.0, reads_text is_commit x.parent two.0, reads_kind x.kind, uploader, reads_paths x.paths three.1) refl;
  exact = λ a b r p q. two_exact (column r 1) (column r 2) a b p q;
  known = λ a r formed has. two_known (is_within most_patches) (column r 1) (column r 2) a formed has;
}

pub patches_of_change : IsFront nat_cmp change_patches patches
patches_of_change = record {
  tree = refl;
  exact = numbers_exact;
  within = λ change k r h. and_from _ _ (and_parts _ _ h).0 refl;
  keyed = λ change k x r h is. and_from _ _ (and_parts _ _ h).0 (and_from _ _ (at_number (column r 2) k (passed (is_within most_patches) _ k (both_are _ _ k x is).0)) refl);
  shows = λ change k x r is. (both_are _ _ k x is).1;
  alone = λ change j k x r is h. one_number (column r 2) j k (passed (is_within most_patches) _ j (both_are _ _ j x is).0) (and_parts _ _ (and_parts _ _ h).1).0;
}

-- ---- roles

pub role_lawful : IsLawful roles role_form
role_lawful = record { keyed = λ p x id. two_keyed p.0 p.1; reads_back = λ p x id good. reads_role x; exact = λ a b r p q. two_exact (column r 1) (column r 2) a b p q; known = λ a r formed has. two_known is_account_number (column r 1) (column r 2) a formed has }

pub roles_of_change : IsFront nat_cmp change_roles roles
roles_of_change = record {
  tree = refl;
  exact = numbers_exact;
  within = λ change k r h. and_from _ _ (and_parts _ _ h).0 refl;
  keyed = λ change k x r h is. and_from _ _ (and_parts _ _ h).0 (and_from _ _ (at_number (column r 2) k (passed is_account_number _ k (both_are _ _ k x is).0)) refl);
  shows = λ change k x r is. (both_are _ _ k x is).1;
  alone = λ change j k x r is h. one_number (column r 2) j k (passed is_account_number _ j (both_are _ _ j x is).0) (and_parts _ _ (and_parts _ _ h).1).0;
}

-- ---- entries of attention sets

pub attention_lawful : IsLawful attention_entries attention_form
attention_lawful = record {
  keyed = λ p x id. two_keyed p.0 p.1;
  reads_back = λ p x id good. rw (reads_text is_line x.reason good) refl;
  exact = λ a b r p q. two_exact (column r 1) (column r 2) a b p q;
  known = λ a r formed has. two_known is_account_number (column r 1) (column r 2) a formed has;
}

pub attention_of_change : IsFront nat_cmp change_attention attention_entries
attention_of_change = record {
  tree = refl;
  exact = numbers_exact;
  within = λ change k r h. and_from _ _ (and_parts _ _ h).0 refl;
  keyed = λ change k x r h is. and_from _ _ (and_parts _ _ h).0 (and_from _ _ (at_number (column r 2) k (passed is_account_number _ k (both_are _ _ k x is).0)) refl);
  shows = λ change k x r is. (both_are _ _ k x is).1;
  alone = λ change j k x r is h. one_number (column r 2) j k (passed is_account_number _ j (both_are _ _ j x is).0) (and_parts _ _ (and_parts _ _ h).1).0;
}

-- ---- comments

pub comment_lawful : IsLawful comments comment_form
comment_lawful = record {
  keyed = λ p x id. two_keyed p.0 p.1;
  reads_back = λ p x id good.
      let one = and_parts _ _ good in
      let two = and_parts _ _ one.1 in
      let three = and_parts _ _ two.1 in
      let four = and_parts _ _ three.1 in
      let five = and_parts _ _ four.1 in
      let patch : is_within most_patches x.patch ≡ true = one.0 in
      let line : is_small x.line ≡ true = three.0 in
      let author : is_account_number x.author ≡ true = four.0 in
      rw (patch, reads_text is_place x.path two.0, line, author, reads_text is_message x.message five.0, reads_flag x.unresolved, reads_answer x.answers five.1) refl;
  exact = λ a b r p q. two_exact (column r 1) (column r 2) a b p q;
  known = λ a r formed has. two_known (is_within most_comments) (column r 1) (column r 2) a formed has;
}

pub comments_of_change : IsFront nat_cmp change_comments comments
comments_of_change = record {
  tree = refl;
  exact = numbers_exact;
  within = λ change k r h. and_from _ _ (and_parts _ _ h).0 refl;
  keyed = λ change k x r h is. and_from _ _ (and_parts _ _ h).0 (and_from _ _ (at_number (column r 2) k (passed (is_within most_comments) _ k (both_are _ _ k x is).0)) refl);
  shows = λ change k x r is. (both_are _ _ k x is).1;
  alone = λ change j k x r is h. one_number (column r 2) j k (passed (is_within most_comments) _ j (both_are _ _ j x is).0) (and_parts _ _ (and_parts _ _ h).1).0;
}

-- ---- votes

pub vote_keys : (a : Option ℕ) (b : Option (List ℕ)) (d : Option ℕ) (k : VoteKey) → vote_key a b d ≡ Some k → (a ≡ Some k.patch) × (b ≡ Some k.label) × (d ≡ Some k.account)
vote_keys None b d k is = absurd (cc)
vote_keys (Some a) None d k is = absurd (cc)
vote_keys (Some a) (Some b) None k is = absurd (cc)
vote_keys (Some a) (Some b) (Some d) k is = let e = same_Some _ _ is in (ap (λ (k : VoteKey). Some k.patch) e, ap (λ (k : VoteKey). Some k.label) e, ap (λ (k : VoteKey). Some k.account) e)

text_is : (v : Value) (t : List ℕ) → text_in v ≡ Some t → v ≡ Text t
text_is (Text s) t is = elim (cases_Bool (is_utf8 s)) [ inl good ↦ (let e = rw good at is in ap Text (same_Some _ _ e)) | inr bad ↦ absurd (let e = rw bad at is in cc) ]
text_is v t is = absurd (cc)

pub at_text : (v : Value) (t : List ℕ) → text_in v ≡ Some t → is_eq (value_cmp v (Text t)) ≡ true
at_text v t is = subst (λ w. is_eq (value_cmp w (Text t)) ≡ true) (sym (text_is v t is)) (itself (Text t))

pub vote_lawful : IsLawful votes vote_form
vote_lawful = record {
  keyed = λ p v id. (λ i. itself (Int (pos p.0)) i && (itself (Int (pos p.1.patch)) i && (itself (Text p.1.label) i && (itself (Int (pos p.1.account)) i && true))));
  reads_back = λ p v id good. rw good refl;
  exact = λ a b r p q.
      let one = and_parts _ _ p in
      let other = and_parts _ _ q in
      let two = and_parts _ _ one.1 in
      let another = and_parts _ _ other.1 in
      let three = and_parts _ _ two.1 in
      let third = and_parts _ _ another.1 in
      let change : a.0 ≡ b.0 = same_int (column r 1) a.0 b.0 one.0 other.0 in
      let patch : a.1.patch ≡ b.1.patch = same_int (column r 2) a.1.patch b.1.patch two.0 another.0 in
      let label : a.1.label ≡ b.1.label = same_text (column r 3) a.1.label b.1.label three.0 third.0 in
      let account : a.1.account ≡ b.1.account = same_int (column r 4) a.1.account b.1.account (and_parts _ _ three.1).0 (and_parts _ _ third.1).0 in
      (λ i. (change i, record { patch = patch i; label = label i; account = account i }));
  known = λ a r formed has.
      let good = and_parts _ _ formed in
      let better = and_parts _ _ good.1 in
      let best = and_parts _ _ better.1 in
      let one = and_parts _ _ has in
      let two = and_parts _ _ one.1 in
      let three = and_parts _ _ two.1 in
      let label = stored_text (column r 3) a.1.label three.0 in
      and_from _ _ (keyed_number (is_within most_changes) (column r 1) a.0 good.0 one.0) (and_from _ _ (keyed_number (is_within most_patches) (column r 2) a.1.patch better.0 two.0)
      (and_from _ _ (ap (λ v. is_some (where_is is_label (text_in v))) label ∙ ap is_some (reads_text is_label a.1.label best.0)) (keyed_number is_account_number (column r 4) a.1.account best.1 (and_parts _ _ three.1).0)));
}

pub both_equal : (o p : Ordering) → is_eq (ordering_then o p) ≡ true → (is_eq o ≡ true) × (is_eq p ≡ true)
both_equal Less p is = absurd (cc)
both_equal Equal p is = (refl, is)
both_equal Greater p is = absurd (cc)

pub then_equal : (o p : Ordering) → o ≡ Equal → p ≡ Equal → ordering_then o p ≡ Equal
then_equal o p a b = rw (a, b) refl

pub votes_exact : IsExact vote_cmp
votes_exact = record {
  same = λ a b is.
      let one = both_equal (nat_cmp a.patch b.patch) _ is in
      let two = both_equal (slice_cmp nat_cmp a.label b.label) (nat_cmp a.account b.account) one.1 in
      let patch : a.patch ≡ b.patch = exact_unsigned a.patch b.patch (equal_is _ one.0) in
      let label : a.label ≡ b.label = exact_bytes a.label b.label (equal_is _ two.0) in
      let account : a.account ≡ b.account = exact_unsigned a.account b.account (equal_is _ two.1) in
      (λ i. record { patch = patch i; label = label i; account = account i });
  itself = λ a. ap is_eq (then_equal (nat_cmp a.patch a.patch) _ (tied_itself nat_cmp_total a.patch) (then_equal (slice_cmp nat_cmp a.label a.label) (nat_cmp a.account a.account) (tied_itself nat_list_cmp_total a.label) (tied_itself nat_cmp_total a.account)));
}

pub votes_of_change : IsFront vote_cmp change_votes votes
votes_of_change = record {
  tree = refl;
  exact = votes_exact;
  within = λ change k r h. and_from _ _ (and_parts _ _ h).0 refl;
  keyed = λ change k x r h is.
      let it = vote_keys _ _ _ k (both_are _ _ k x is).0 in
      and_from _ _ (and_parts _ _ h).0 (and_from _ _ (at_number (column r 2) k.patch (passed (is_within most_patches) _ k.patch it.0))
      (and_from _ _ (at_text (column r 3) k.label (passed is_label _ k.label it.1)) (and_from _ _ (at_number (column r 4) k.account (passed is_account_number _ k.account it.2)) refl)));
  shows = λ change k x r is. (both_are _ _ k x is).1;
  alone = λ change j k x r is h.
      let it = vote_keys _ _ _ j (both_are _ _ j x is).0 in
      let one = and_parts _ _ h in
      let two = and_parts _ _ one.1 in
      let three = and_parts _ _ two.1 in
      let patch : j.patch ≡ k.patch = one_number (column r 2) j.patch k.patch (passed (is_within most_patches) _ j.patch it.0) two.0 in
      let label : j.label ≡ k.label = same_text (column r 3) j.label k.label (at_text (column r 3) j.label (passed is_label _ j.label it.1)) three.0 in
      let account : j.account ≡ k.account = one_number (column r 4) j.account k.account (passed is_account_number _ j.account it.2) (and_parts _ _ three.1).0 in
      (λ i. record { patch = patch i; label = label i; account = account i });
}

-- ---- what the texts of the tables mean

abbrev pub attention_table : Records (ℕ × ℕ) AttentionEntry
attention_table = record {
  writes = record { sets = PutsIn; insert = texts.INSERT_ATTENTION.now; delete = texts.DELETE_ATTENTION.now };
  search = attention_entries;
  form = attention_form;
  inserts = λ p x. insert_attention (pos p.0) (pos p.1) x.reason (pos x.request);
  deletes = λ p. delete_attention (pos p.0) (pos p.1);
  keeps = attention_lawful;
  single = λ is db ready p. at_place 8 table.attention (attention_entries.at p) refl refl refl (refl, (refl, tt)) db ready;
}

abbrev pub comment_table : Records (ℕ × ℕ) CommentRow
comment_table = record {
  writes = record { sets = PutsIn; insert = texts.INSERT_COMMENT.now; delete = texts.DELETE_COMMENT.now };
  search = comments;
  form = comment_form;
  inserts = λ p x. insert_comment (pos p.0) (pos p.1) (pos x.patch) x.path (pos x.line) (pos x.author) x.message (pos (flag_number x.unresolved)) (pos (answers_number x.answers)) (pos x.request);
  deletes = λ p. delete_comment (pos p.0) (pos p.1);
  keeps = comment_lawful;
  single = λ is db ready p. at_place 7 table.comments (comments.at p) refl refl refl (refl, (refl, tt)) db ready;
}

abbrev pub header_table : Records ℕ Header
header_table = record {
  writes = record { sets = Replaces; insert = texts.INSERT_CHANGE.now; delete = texts.DELETE_CHANGE.now };
  search = headers;
  form = header_form;
  inserts = λ number h. insert_change (pos number) h.project h.branch h.subject (pos h.owner) (state_name h.state) (pos (flag_number h.wip)) (pos h.place) (pos h.updated);
  deletes = λ number. delete_change (pos number);
  keeps = header_lawful;
  single = λ is. absurd (never_put_in is);
}

abbrev pub patch_table : Records (ℕ × ℕ) PatchRow
patch_table = record {
  writes = record { sets = PutsIn; insert = texts.INSERT_PATCH.now; delete = texts.DELETE_PATCH.now };
  search = patches;
  form = patch_form;
  inserts = λ p x. insert_patch (pos p.0) (pos p.1) x.commit x.parent (kind_name x.kind) (pos x.uploader) (paths_text x.paths);
  deletes = λ p. delete_patch (pos p.0) (pos p.1);
  keeps = patch_lawful;
  single = λ is db ready p. at_place 4 table.patches (patches.at p) refl refl refl (refl, (refl, tt)) db ready;
}

abbrev pub role_table : Records (ℕ × ℕ) Role
role_table = record {
  writes = record { sets = Replaces; insert = texts.INSERT_REVIEWER.now; delete = texts.DELETE_REVIEWER.now };
  search = roles;
  form = role_form;
  inserts = λ p x. insert_reviewer (pos p.0) (pos p.1) (role_name x);
  deletes = λ p. delete_reviewer (pos p.0) (pos p.1);
  keeps = role_lawful;
  single = λ is db ready p. at_place 6 table.reviewers (roles.at p) refl refl refl (refl, (refl, tt)) db ready;
}

abbrev pub vote_table : Records (ℕ × VoteKey) ℤ
vote_table = record {
  writes = record { sets = Replaces; insert = texts.INSERT_VOTE.now; delete = texts.DELETE_VOTE.now };
  search = votes;
  form = vote_form;
  inserts = λ p v. insert_vote (pos p.0) (pos p.1.patch) p.1.label (pos p.1.account) v;
  deletes = λ p. delete_vote (pos p.0) (pos p.1.patch) p.1.label (pos p.1.account);
  keeps = vote_lawful;
  single = λ is db ready p. at_place 5 table.votes (votes.at p) refl refl refl (refl, (refl, (refl, (refl, tt)))) db ready;
}
