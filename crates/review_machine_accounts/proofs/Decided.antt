-- Commands that are decided, and what closes epochs.
use Rattle.std.proofs.Common.{◌≡◌, ℕ, List, refl, ◌+◌, ◌==◌, [], ◌∷◌, ◌++◌, Option, Some, None, Bool, true, false, cond, ◌&&◌, sym, ap, ◌∙◌, subst, ⊎_elim, length, nat_cmp, is_some, nat_lt, option_map, unwrap_or, MatchOption, bytes_eq, nat_le}
use Rattle.std.proofs.lemmas.Slice.Eq.{bytes_eq-Decides}
use Rattle.review_table.specs.Rows.{row_edit_of, after_row_edit}
use Rattle.review_words.specs.History.{Entry, entry_of, account_count, name_of, is_account, is_admin, is_listed, listed_members, file_text, is_project, project_count, bases, base_count, least_open}
use Rattle.review_words.specs.Texts.{IsPlaced, IsRefusalOf}
use Rattle.review_words.specs.declared.command.Command.TheVariants.{CreateAccount, PutGroup, PutProject, RecordBase, CloseEpoch}
use Rattle.review_words.specs.declared.faults.{ExprFault.ExprFault, FileFault.FileFault, FileFault.TheVariants.Expr}
use Rattle.review_words.specs.declared.reply.Refusal.TheVariants.{UnknownCaller, NotAdmin, SameState, RequirementUnsatisfied, BadFile, EpochAhead}
use Rattle.review_machine_rows.proofs.Common.{Answer, Command, Done, File, Nothing, Refusal, Refused, Reply, cases_Bool, is_at, is_eq-slice_cmp, named_parent, slice_cmp, unsigned_tied}
use Rattle.review_machine_rows.proofs.{Joins.placed_more, Joins.place_is_free, Lined.there_is, Puts.at_place_of}
use Rattle.review_machine_rows.specs.Answer.{IsAnswerBy, IsOutcome, first_refusal, refused_by, checks, IsAnswerAt, epoch_checks, refused_or}
use Rattle.review_machine_rows.specs.Changes.{Reading, own_of, placed}
use Rattle.review_machine_rows.specs.{Desks.facts_of, Known.known, Known.members_of, Known.at_place}
use Rattle.review_machine_rows.specs.Rows.{Key, AccountKey, MemberKey, FileKey, BaseKey, PartKey, OddKey, Row, AccountRow, FileRow, BaseRow, APart, Count, Projects, BasesOf, ClosedEpochs, member_cmp, account_change, member_change, edited, after, count_after, after_put, count_put, place_cmp, ChangesNothing}
use Rattle.review_machine_rows.specs.Steps.{OfCommand}
use Rattle.review_machine_rows.specs.View.{fact, counted, AreEnough, IsDecided, IsDecidedAt}
use Rattle.review_machine_rows.specs.declared.rows.{Delta.Delta, PlaceKey.PlaceKey, Rows.Rows, StoredFile.StoredFile}
use Rattle.review_machine_laws.proofs.{Checked.asked_beside, Told.held_told}
use Rattle.review_machine_accounts.proofs.Members.{eq_sym, members_after}
use Rattle.review_machine_accounts.specs.Decisions.{DeltaView, IsDelta, IsEmpty, no_edits}
use Rattle.review_machine_accounts.specs.inner.Words.{added, dropped, is_held, member_of}
use Rattle.review_words.specs.declared.reply.Answer.TheVariants as made
use Rattle.review_machine_rows.specs.declared.rows.Want.TheVariants as want

-- ==== refusals and faults without numbers and names

pub plain_refusal : (r : Refusal) → ((f : FileFault) → r ≡ BadFile f → ⊥) → ((change : ℕ) (requirement : List ℕ) → r ≡ RequirementUnsatisfied change requirement → ⊥) → IsRefusalOf r
plain_refusal (RequirementUnsatisfied change name) file requirement = absurd (requirement change name refl)
plain_refusal (BadFile fault) file requirement = absurd (file fault refl)
plain_refusal _ file requirement = tt

pub plain_fault : (f : FileFault) → ((e : ExprFault) → f ≡ Expr e → ⊥) → IsPlaced f
plain_fault (Expr e) expr = absurd (expr e refl)
plain_fault _ expr = tt

-- ==== what the loaded rows tell of the history, and what a command's reply and delta make of it

-- whether an account was a member of the group that is put
held_before : {reading : Reading} {file : Option File} (h : List Entry) (caller : ℕ) (group members : List ℕ) (rows : Rows) → AreEnough reading h caller (OfCommand (PutGroup group members)) file rows → (g : List ℕ) (a : ℕ) →
    bytes_eq group g ≡ true → is_held (members_of (known rows (want.Group group))) a ≡ is_listed h g a
held_before {reading = reading} h caller group members rows l g a same =
    held_told reading h rows group a l.agree (asked_beside h caller (PutGroup group members) rows l).0 ∙ ap (λ x. is_listed h x a) ((bytes_eq-Decides group g).0 same)

-- a command that a check refuses, and one that none refuses
pub refused_answer : (reading : Reading) (h : List Entry) (caller : ℕ) (command : Command) (refusal : Refusal) → refused_by reading h caller command ≡ Some refusal → IsAnswerBy reading h caller command (Refused refusal)
refused_answer reading h caller command refusal is = subst (λ o. MatchOption o (IsOutcome reading h caller command (Refused refusal)) (λ r. Refused refusal ≡ Refused r)) (sym is) refl

pub outcome_answer : (reading : Reading) (h : List Entry) (caller : ℕ) (command : Command) (reply : Reply) → refused_by reading h caller command ≡ None → IsOutcome reading h caller command reply → IsAnswerBy reading h caller command reply
outcome_answer reading h caller command reply is outcome = subst (λ o. MatchOption o (IsOutcome reading h caller command reply) (λ r. reply ≡ Refused r)) (sym is) outcome

-- the refusals by their checks
pub unknown_refused : (reading : Reading) (h : List Entry) (caller : ℕ) (command : Command) → is_account h caller ≡ false → refused_by reading h caller command ≡ Some UnknownCaller
unknown_refused reading h caller command e = ap (λ a. cond a (first_refusal (checks (facts_of reading h) caller command)) (Some UnknownCaller)) e

-- before its file is read, a PutProject is refused where its caller is no administrator
pub project_refused : (reading : Reading) (h : List Entry) (caller : ℕ) (project file : List ℕ) (b : Bool) → is_account h caller ≡ true → is_admin h caller ≡ b →
    refused_by reading h caller (PutProject project file) ≡ cond b None (Some NotAdmin)
project_refused reading h caller project file b p q = λ i. cond (p i) (cond (q i) None (Some NotAdmin)) (Some UnknownCaller)

-- the row of a key after a delta that has these, and a count
abbrev pub row_by : DeltaView → Key → Option Row → Option Row
row_by v (AccountKey number) was = after_row_edit (account_change (row_edit_of nat_cmp v.accounts number)) was
row_by v (MemberKey group account) was = after_row_edit (member_change (row_edit_of member_cmp v.members (member_of group account))) was
row_by v (FileKey project) was = after_put (slice_cmp nat_cmp) FileRow v.file project was
row_by v (BaseKey project branch place) was = after_put place_cmp BaseRow v.base (record { project = project; branch = branch; place = place }) was
row_by v (PartKey n part) was = after_row_edit (option_map (option_map APart) (edited v.changes n part)) was
row_by v (OddKey o) was = was

abbrev pub count_by : DeltaView → (Key → Option Row) → Count → ℕ → ℕ
count_by v row Projects n = count_put (λ p. true) v.file (λ p. row (FileKey p)) n
count_by v row (BasesOf project) n = count_put (λ (k : PlaceKey). bytes_eq k.project project) v.base (λ (k : PlaceKey). row (BaseKey k.project k.branch k.place)) n
count_by v row ClosedEpochs n = unwrap_or v.epoch n

pub rows_by : {v : DeltaView} {delta : Delta} → IsDelta v delta → (k : Key) (was : Option Row) → after delta k was ≡ row_by v k was
rows_by d (AccountKey number) was = ap (λ l. after_row_edit (account_change (row_edit_of nat_cmp l number)) was) d.accounts
rows_by d (MemberKey group account) was = ap (λ l. after_row_edit (member_change (row_edit_of member_cmp l (member_of group account))) was) d.members
rows_by d (FileKey project) was = ap (λ o. after_put (slice_cmp nat_cmp) FileRow o project was) d.file
rows_by d (BaseKey project branch place) was = ap (λ o. after_put place_cmp BaseRow o (record { project = project; branch = branch; place = place }) was) d.base
rows_by d (PartKey n part) was = ap (λ es. after_row_edit (option_map (option_map APart) (edited es n part)) was) d.changes
rows_by d (OddKey o) was = refl

pub counts_by : {v : DeltaView} {delta : Delta} → IsDelta v delta → (row : Key → Option Row) (c : Count) (n : ℕ) → count_after delta row c n ≡ count_by v row c n
counts_by d row Projects n = ap (λ o. count_put (λ p. true) o (λ p. row (FileKey p)) n) d.file
counts_by d row (BasesOf project) n = ap (λ o. count_put (λ (k : PlaceKey). bytes_eq k.project project) o (λ (k : PlaceKey). row (BaseKey k.project k.branch k.place)) n) d.base
counts_by d row ClosedEpochs n = ap (λ o. unwrap_or o n) d.epoch

-- a command that is done is decided, where its delta makes the rows and counts of the history with it
pub decided_by : {reading : Reading} {v : DeltaView} {delta : Delta} (h : List Entry) (caller : ℕ) (command : Command) (a : Answer) → IsDelta v delta → IsAnswerBy reading h caller command (Done a) →
    ((k : Key) → fact reading (entry_of caller 0 [] command (Done a) ∷ h) k ≡ row_by v k (fact reading h k)) →
    ((c : Count) → counted (entry_of caller 0 [] command (Done a) ∷ h) c ≡ count_by v (fact reading h) c (counted h c)) → IsDecided reading h caller command delta (Done a)
decided_by {reading = reading} h caller command a d answer rows counts = record {
  reply_is = answer;
  row_is = λ epoch id k. rows k ∙ sym (rows_by d k (fact reading h k));
  count_is = λ epoch id c. counts c ∙ sym (counts_by d (fact reading h) c (counted h c));
}

-- a delta without rows
pub empty_changes : (delta : Delta) → IsEmpty delta → ChangesNothing delta
empty_changes delta e = record { answers = e.epoch; rows = λ k was. rows_by e k was ∙ same k was; counts = λ row c n. counts_by e row c n ∙ same_count row c n }
  where
    same : (k : Key) (was : Option Row) → row_by no_edits k was ≡ was
    same (AccountKey number) was = refl
    same _ was = refl

    same_count : (row : Key → Option Row) (c : Count) (n : ℕ) → count_by no_edits row c n ≡ n
    same_count row Projects n = refl
    same_count row _ n = refl

pub refused_same : (reading : Reading) (h : List Entry) (caller epoch : ℕ) (id : List ℕ) (command : Command) (refusal : Refusal) (k : Key) →
    fact reading (entry_of caller epoch id command (Refused refusal) ∷ h) k ≡ fact reading h k
refused_same reading h caller epoch id command refusal (AccountKey number) = refl
refused_same reading h caller epoch id command refusal _ = refl

pub refused_count : (h : List Entry) (caller epoch : ℕ) (id : List ℕ) (command : Command) (refusal : Refusal) (c : Count) →
    counted (entry_of caller epoch id command (Refused refusal) ∷ h) c ≡ counted h c
refused_count h caller epoch id command refusal Projects = refl
refused_count h caller epoch id command refusal _ = refl

-- a refusal changes nothing
pub refused_decided : {reading : Reading} (h : List Entry) (caller : ℕ) (command : Command) (delta : Delta) (refusal : Refusal) →
    IsEmpty delta → IsAnswerBy reading h caller command (Refused refusal) → IsDecided reading h caller command delta (Refused refusal)
refused_decided {reading = reading} h caller command delta refusal e is =
    let none = empty_changes delta e in
    record {
      reply_is = is;
      row_is = λ epoch id k. refused_same reading h caller epoch id command refusal k ∙ sym (none.rows k (fact reading h k));
      count_is = λ epoch id c. refused_count h caller epoch id command refusal c ∙ sym (none.counts (fact reading h) c (counted h c));
    }

pub refused_pair : {reading : Reading} (h : List Entry) (caller : ℕ) (command : Command) (r : Delta × Reply) (refusal : Refusal) →
    IsEmpty r.0 → r.1 ≡ Refused refusal → refused_by reading h caller command ≡ Some refusal → IsDecided reading h caller command r.0 r.1
refused_pair {reading = reading} h caller command r refusal e is by =
    subst (λ reply. IsDecided reading h caller command r.0 reply) (sym is) (refused_decided h caller command r.0 refusal e (refused_answer reading h caller command refusal by))

account_row_after : (b : Bool) (name : List ℕ) (before : Option (List ℕ)) →
    option_map AccountRow (cond b (Some name) before) ≡ after_row_edit (account_change (cond b (Some (Some name)) None)) (option_map AccountRow before)
account_row_after true name before = refl
account_row_after false name before = refl

-- the new account is the only new row
pub create_decided : {reading : Reading} (h : List Entry) (caller : ℕ) (name : List ℕ) (delta : Delta) (number : ℕ) → refused_by reading h caller (CreateAccount name) ≡ None → number ≡ account_count h + 1 →
    IsDelta (record no_edits { accounts = record { key = number; row = Some name } ∷ [] }) delta → IsDecided reading h caller (CreateAccount name) delta (Done (made.Account number))
create_decided {reading = reading} h caller name delta number passes n d =
    decided_by h caller (CreateAccount name) (made.Account number) d (outcome_answer reading h caller (CreateAccount name) (Done (made.Account number)) passes (ap (λ x. Done (made.Account x)) n)) rows counts
  where
    v : DeltaView
    v = record no_edits { accounts = record { key = number; row = Some name } ∷ [] }

    here : (m : ℕ) → is_at (nat_cmp number) m ≡ (m == account_count h + 1)
    here m = unsigned_tied number m ∙ (eq_sym number m ∙ ap (λ x. m == x) n)

    rows : (k : Key) → fact reading (entry_of caller 0 [] (CreateAccount name) (Done (made.Account number)) ∷ h) k ≡ row_by v k (fact reading h k)
    rows (AccountKey m) = account_row_after (m == account_count h + 1) name (name_of h m) ∙ sym (ap (λ e. after_row_edit (account_change (cond e (Some (Some name)) None)) (fact reading h (AccountKey m))) (here m))
    rows _ = refl

    counts : (c : Count) → counted (entry_of caller 0 [] (CreateAccount name) (Done (made.Account number)) ∷ h) c ≡ count_by v (fact reading h) c (counted h c)
    counts Projects = refl
    counts _ = refl

-- the rows of the group become those of its new members
pub put_decided : {reading : Reading} {file : Option File} (h : List Entry) (caller : ℕ) (group members : List ℕ) (rows : Rows) (delta : Delta) → AreEnough reading h caller (OfCommand (PutGroup group members)) file rows →
    refused_by reading h caller (PutGroup group members) ≡ None →
    IsDelta (record no_edits { members = added group (members_of (known rows (want.Group group))) members ++ dropped group (members_of (known rows (want.Group group))) members }) delta →
    IsDecided reading h caller (PutGroup group members) delta (Done made.Nothing)
put_decided {reading = reading} h caller group members rows delta l passes d =
    decided_by h caller (PutGroup group members) made.Nothing d (outcome_answer reading h caller (PutGroup group members) (Done made.Nothing) passes refl) each counts
  where
    v : DeltaView
    v = record no_edits { members = added group (members_of (known rows (want.Group group))) members ++ dropped group (members_of (known rows (want.Group group))) members }

    each : (k : Key) → fact reading (entry_of caller 0 [] (PutGroup group members) (Done made.Nothing) ∷ h) k ≡ row_by v k (fact reading h k)
    each (MemberKey g m) = members_after group members (listed_members h g) (members_of (known rows (want.Group group))) g m (held_before h caller group members rows l g m)
    each _ = refl

    counts : (c : Count) → counted (entry_of caller 0 [] (PutGroup group members) (Done made.Nothing) ∷ h) c ≡ count_by v (fact reading h) c (counted h c)
    counts Projects = refl
    counts _ = refl

-- whether a project is there
pub project_is : (reading : Reading) (h : List Entry) (project : List ℕ) → is_some (fact reading h (FileKey project)) ≡ is_project h project
project_is reading h project = some_file (own_of h project) ∙ sym (there_is h project)
  where
    some_file : (o : Option StoredFile) → is_some (option_map FileRow o) ≡ is_some o
    some_file None = refl
    some_file (Some t) = refl

based_where : (b : Bool) (commit : List ℕ) (o : Option (List ℕ)) → option_map BaseRow (cond b (Some commit) o) ≡ cond b (Some (BaseRow commit)) (option_map BaseRow o)
based_where true commit o = refl
based_where false commit o = refl

-- the rows of a branch that gets one base more
base_rows : (h : List Entry) (project branch commit : List ℕ) (place : ℕ) (p b : List ℕ) (n : ℕ) → place ≡ length (bases h project branch) + 1 →
    option_map BaseRow (at_place (cond (bytes_eq project p && bytes_eq branch b) (bases h p b ++ commit ∷ []) (bases h p b)) n)
    ≡ cond (bytes_eq project p && (bytes_eq branch b && (place == n))) (Some (BaseRow commit)) (option_map BaseRow (at_place (bases h p b) n))
base_rows h project branch commit place p b n is = ⊎_elim
    (λ (t : bytes_eq project p ≡ true). ⊎_elim
    (λ (u : bytes_eq branch b ≡ true).
    let where_is : length (bases h project branch) ≡ length (bases h p b) = λ i. length (bases h ((bytes_eq-Decides project p).0 t i) ((bytes_eq-Decides branch b).0 u i)) in
    let at : (length (bases h p b) + 1 == n) ≡ (place == n) = ap (λ l. l == n) (ap (λ l. l + 1) (sym where_is) ∙ sym is) in
    (λ i. option_map BaseRow (at_place (cond (t i && u i) (bases h p b ++ commit ∷ []) (bases h p b)) n))
    ∙ (ap (option_map BaseRow) (placed_more (bases h p b) commit n)
    ∙ (based_where (length (bases h p b) + 1 == n) commit (at_place (bases h p b) n)
    ∙ (ap (λ c. cond c (Some (BaseRow commit)) (option_map BaseRow (at_place (bases h p b) n))) at
    ∙ sym (λ i. cond (t i && (u i && (place == n))) (Some (BaseRow commit)) (option_map BaseRow (at_place (bases h p b) n)))))))
    (λ (v : bytes_eq branch b ≡ false).
    (λ i. option_map BaseRow (at_place (cond (t i && v i) (bases h p b ++ commit ∷ []) (bases h p b)) n))
    ∙ sym (λ i. cond (t i && (v i && (place == n))) (Some (BaseRow commit)) (option_map BaseRow (at_place (bases h p b) n))))
    (cases_Bool (bytes_eq branch b)))
    (λ (f : bytes_eq project p ≡ false).
    (λ i. option_map BaseRow (at_place (cond (f i && bytes_eq branch b) (bases h p b ++ commit ∷ []) (bases h p b)) n))
    ∙ sym (λ i. cond (f i && (bytes_eq branch b && (place == n))) (Some (BaseRow commit)) (option_map BaseRow (at_place (bases h p b) n))))
    (cases_Bool (bytes_eq project p))

-- the base is the last of its branch
pub base_decided : {reading : Reading} (h : List Entry) (caller : ℕ) (project branch commit : List ℕ) (place : ℕ) (delta : Delta) → place ≡ length (bases h project branch) + 1 →
    refused_by reading h caller (RecordBase project branch commit) ≡ None → IsDelta (record no_edits { base = Some (record { key = record { project = project; branch = branch; place = place }; row = commit }) }) delta →
    IsDecided reading h caller (RecordBase project branch commit) delta (Done made.Nothing)
base_decided {reading = reading} h caller project branch commit place delta is passes d =
    decided_by h caller (RecordBase project branch commit) made.Nothing d (outcome_answer reading h caller (RecordBase project branch commit) (Done made.Nothing) passes refl) rows counts
  where
    v : DeltaView
    v = record no_edits { base = Some (record { key = record { project = project; branch = branch; place = place }; row = commit }) }

    free : is_some (fact reading h (BaseKey project branch place)) ≡ false
    free = ap (λ n. is_some (option_map BaseRow (at_place (bases h project branch) n))) is ∙ ap (λ o. is_some (option_map BaseRow o)) (place_is_free (bases h project branch))

    rows : (k : Key) → fact reading (entry_of caller 0 [] (RecordBase project branch commit) (Done made.Nothing) ∷ h) k ≡ row_by v k (fact reading h k)
    rows (BaseKey p b n) =
        base_rows h project branch commit place p b n is
        ∙ sym (ap (λ t. cond t (Some (BaseRow commit)) (fact reading h (BaseKey p b n))) (at_place_of (record { project = project; branch = branch; place = place }) p b n))
    rows _ = refl

    counts : (c : Count) → counted (entry_of caller 0 [] (RecordBase project branch commit) (Done made.Nothing) ∷ h) c ≡ count_by v (fact reading h) c (counted h c)
    counts (BasesOf p) = sym (ap (λ t. cond (bytes_eq project p) (cond t (base_count h p) (base_count h p + 1)) (base_count h p)) free)
    counts _ = refl

-- the project has the file that is put
pub file_decided : {reading : Reading} (h : List Entry) (caller : ℕ) (project text : List ℕ) (delta : Delta) → IsAnswerBy reading h caller (PutProject project text) (Done made.Nothing) →
    IsDelta (record no_edits { file = Some (record { key = project; row = record { text = text; parent = named_parent text } }) }) delta → IsDecided reading h caller (PutProject project text) delta (Done made.Nothing)
file_decided {reading = reading} h caller project text delta is d = decided_by h caller (PutProject project text) made.Nothing d is rows counts
  where
    v : DeltaView
    v = record no_edits { file = Some (record { key = project; row = record { text = text; parent = named_parent text } }) }

    file_where : (b : Bool) (o : Option (List ℕ)) → option_map FileRow (placed (cond b (Some text) o)) ≡ cond b (Some (FileRow (record { text = text; parent = named_parent text }))) (option_map FileRow (placed o))
    file_where true o = refl
    file_where false o = refl

    rows : (k : Key) → fact reading (entry_of caller 0 [] (PutProject project text) (Done made.Nothing) ∷ h) k ≡ row_by v k (fact reading h k)
    rows (FileKey p) =
        file_where (bytes_eq project p) (file_text h p)
        ∙ sym (ap (λ t. cond t (Some (FileRow (record { text = text; parent = named_parent text }))) (fact reading h (FileKey p))) (is_eq-slice_cmp project p))
    rows _ = refl

    counts : (c : Count) → counted (entry_of caller 0 [] (PutProject project text) (Done made.Nothing) ∷ h) c ≡ count_by v (fact reading h) c (counted h c)
    counts Projects = ap (λ b. cond b (project_count h) (project_count h + 1)) (sym (project_is reading h project))
    counts _ = refl

-- ==== what closes epochs, and what is told of it

-- the reply by the four checks
abbrev pub close_reply : Bool → Bool → Bool → Bool → Reply
close_reply a b c d = cond a (cond b (cond c (cond d (Done Nothing) (Refused SameState)) (Refused EpochAhead)) (Refused NotAdmin)) (Refused UnknownCaller)

abbrev Told : Bool → Bool → Bool → Bool → Reply → Type 0
Told a b c d reply = MatchOption (first_refusal ((a, UnknownCaller) ∷ (b, NotAdmin) ∷ [])) (reply ≡ refused_or (first_refusal ((c, EpochAhead) ∷ (d, SameState) ∷ [])) Nothing) (λ r. reply ≡ Refused r)

told : (a b c d : Bool) (reply : Reply) → reply ≡ close_reply a b c d → Told a b c d reply
told false b c d reply is = is
told true false c d reply is = is
told true true false d reply is = is
told true true true false reply is = is
told true true true true reply is = is

pub close_answer : (reading : Reading) (h : List Entry) (caller epoch least : ℕ) (reply : Reply) (a b c d : Bool) → is_account h caller ≡ a → is_admin h caller ≡ b → nat_le least epoch ≡ c →
    nat_lt (least_open h) least ≡ d → reply ≡ close_reply a b c d → IsAnswerAt reading h caller epoch (CloseEpoch least) reply
close_answer reading h caller epoch least reply a b c d p q r s is =
    subst (λ (x : Bool × Bool × Bool × Bool). Told x.0 x.1 x.2 x.3 reply) (λ i. (sym p i, sym q i, sym r i, sym s i)) (told a b c d reply is)

-- a refusal changes nothing
pub refused_at : {reading : Reading} (h : List Entry) (caller epoch : ℕ) (command : Command) (r : Delta × Reply) (refusal : Refusal) → IsEmpty r.0 → r.1 ≡ Refused refusal →
    IsAnswerAt reading h caller epoch command (Refused refusal) → IsDecidedAt reading h caller epoch command r.0 r.1
refused_at {reading = reading} h caller epoch command r refusal e is answer =
    let none = empty_changes r.0 e in
    subst (λ reply. IsDecidedAt reading h caller epoch command r.0 reply) (sym is) (record {
      reply_is = answer;
      row_is = λ id k. refused_same reading h caller epoch id command refusal k ∙ sym (none.rows k (fact reading h k));
      count_is = λ id c. refused_count h caller epoch id command refusal c ∙ sym (none.counts (fact reading h) c (counted h c));
    })

-- the least open epoch is all that changes
pub close_decided : {reading : Reading} (h : List Entry) (caller epoch least : ℕ) (delta : Delta) → is_account h caller ≡ true → is_admin h caller ≡ true → nat_le least epoch ≡ true →
    nat_lt (least_open h) least ≡ true → IsDelta (record no_edits { epoch = Some least }) delta → IsDecidedAt reading h caller epoch (CloseEpoch least) delta (Done Nothing)
close_decided {reading = reading} h caller epoch least delta a b c d has = record {
  reply_is = close_answer reading h caller epoch least (Done Nothing) true true true true a b c d refl;
  row_is = λ id k. rows k ∙ sym (rows_by has k (fact reading h k));
  count_is = λ id k. counts k ∙ sym (counts_by has (fact reading h) k (counted h k));
}
  where
    rows : (k : Key) → fact reading (entry_of caller epoch [] (CloseEpoch least) (Done Nothing) ∷ h) k ≡ row_by (record no_edits { epoch = Some least }) k (fact reading h k)
    rows (AccountKey m) = refl
    rows _ = refl

    counts : (k : Count) → counted (entry_of caller epoch [] (CloseEpoch least) (Done Nothing) ∷ h) k ≡ count_by (record no_edits { epoch = Some least }) (fact reading h) k (counted h k)
    counts ClosedEpochs = ap (λ t. cond t least (least_open h)) d
    counts _ = refl

-- what refuses any command, whatever its epoch
pub refused_in : (reading : Reading) (h : List Entry) (caller epoch : ℕ) (command : Command) (refusal : Refusal) → refused_by reading h caller command ≡ Some refusal → IsAnswerAt reading h caller epoch command (Refused refusal)
refused_in reading h caller epoch (CloseEpoch least) refusal is =
    subst (λ o. MatchOption o (Refused refusal ≡ refused_or (first_refusal (epoch_checks (facts_of reading h) epoch least)) Nothing) (λ r. Refused refusal ≡ Refused r)) (sym is) refl
refused_in reading h caller epoch command refusal is = refused_answer reading h caller command refusal is

pub refused_pair_in : {reading : Reading} (h : List Entry) (caller epoch : ℕ) (command : Command) (r : Delta × Reply) (refusal : Refusal) →
    IsEmpty r.0 → r.1 ≡ Refused refusal → refused_by reading h caller command ≡ Some refusal → IsDecidedAt reading h caller epoch command r.0 r.1
refused_pair_in {reading = reading} h caller epoch command r refusal e is by = refused_at h caller epoch command r refusal e is (refused_in reading h caller epoch command refusal by)

-- what is decided without an epoch is so in a request of any
pub decided_in : {reading : Reading} {h : List Entry} {caller : ℕ} (epoch : ℕ) {command : Command} {delta : Delta} {reply : Reply} →
    (IsAnswerBy reading h caller command reply → IsAnswerAt reading h caller epoch command reply) → IsDecided reading h caller command delta reply → IsDecidedAt reading h caller epoch command delta reply
decided_in epoch same d = record { reply_is = same d.reply_is; row_is = λ id k. d.row_is epoch id k; count_is = λ id c. d.count_is epoch id c }
