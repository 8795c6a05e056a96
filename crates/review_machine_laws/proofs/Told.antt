-- What rows that agree with a history tell of it.
use Rattle.std.proofs.Common.{◌≡◌, ℕ, ◌+◌, ◌<◌, ◌≤◌, ◌==◌, List, [], ◌∷◌, Option, Some, None, Bool, true, false, cond, ◌&&◌, ◌||◌, refl, sym, ap, ◌∙◌, ⊎_elim, arith, eq-eqb, leb-true, is_some, IsSome, nat_le, option_map, bytes_eq, zero, suc, length, ◌⊎◌, nat_cmp, nat_lt, length-append, ◌++◌, subst, MatchOption}
use Rattle.std.proofs.{Math.Bool.or-false, lemmas.Bool.cases_Bool, lemmas.Bool.cases_lt, lemmas.Bool.and_parts}
use Rattle.review_names.specs.Names.{admin_name}
use Rattle.review_words.specs.History.{Entry, accepted, counted, named, is_named, account_count, name_of, name_taken, is_account, is_listed, is_project, bases, is_base, least_open, base_count, with_base, base_counted}
use Rattle.review_words.specs.declared.command.Command.TheVariants.{CreateAccount, PutGroup, PutProject, RecordBase, CloseEpoch, CreateChange, OnChange, Submit}
use Rattle.review_words.specs.declared.command.Query.{Query}
use Rattle.review_machine_rows.proofs.Asked.{found_of, all_asked}
use Rattle.review_machine_rows.proofs.Common.{Answer, Command, Done, File, OfQuery, Refusal, Refused, UnknownCaller, bytes_eq-Decides, first_refusal, nat_tests, row_in, some_mapped, some_or}
use Rattle.review_machine_rows.proofs.Joins.{past_end, some_at, nothing_at_zero}
use Rattle.review_machine_rows.proofs.{Lined.there_is, Looked.based_from}
use Rattle.review_machine_rows.specs.Changes.{Reading, change, change_count, own_of, is_known, is_sent}
use Rattle.review_machine_rows.specs.Desks.{known_in}
use Rattle.review_machine_rows.specs.Known.{change_in, IsFoundByName, IsLast, known, Agrees, IsKnown, is_so, is_there, number_of, holder_of, members_of, commits_of, at_place, IsBaseOrNot, count_of, most}
use Rattle.review_machine_rows.specs.Questions.{IsQueryAnswerBy, IsToldTo, query_checks, query_refused_by}
use Rattle.review_machine_rows.specs.Rows.{AccountKey, AccountRow, MemberRow, FileRow, BaseRow, member_row}
use Rattle.review_machine_rows.specs.View.{fact, view, counted as counted_in, AreEnough}
use Rattle.review_machine_rows.specs.declared.rows.{Base.Base, BranchKey.BranchKey as Branch, Counted.Counted}
use Rattle.review_machine_rows.specs.declared.rows.{Rows.Rows, StoredFile.StoredFile}
use Rattle.review_machine_laws.proofs.{Changes.last_change_is, Rows.rows_tell, Sent.sent_is}
use Rattle.review_machine_laws.proofs.Shown.{placed_at, listed_at}
use Rattle.review_machine_rows.specs.declared.rows.Want.TheVariants as want
use Rattle.review_words.specs.declared.command.Query.TheVariants as asked

-- ==== accounts and their names in a history

-- one more account
one_more : (n c : ℕ) → ((n == c + 1) || (nat_le 1 n && nat_le n c)) ≡ (nat_le 1 n && nat_le n (c + 1))
one_more n c = grind (arith, nat_tests)

first_account : (n : ℕ) → (n == 1) ≡ (nat_le 1 n && nat_le n 1)
first_account n = grind (arith, nat_tests)

named_step : (o : Option Command) (n c : ℕ) (before : Option (List ℕ)) → is_some before ≡ (nat_le 1 n && nat_le n c) →
    is_some (named o n (c + 1) before) ≡ (nat_le 1 n && nat_le n (counted o c))
named_step (Some (CreateAccount name)) n c before e = some_or (n == c + 1) name before ∙ (ap (λ b. (n == c + 1) || b) e ∙ one_more n c)
named_step _ n c before e = e

-- an account has a name
pub named_account : (h : List Entry) (n : ℕ) → is_some (name_of h n) ≡ is_account h n
named_account [] n = some_or (n == 1) admin_name None ∙ (or-false (n == 1) ∙ first_account n)
named_account (e ∷ h) n = named_step (accepted e) n (account_count h) (name_of h n) (named_account h n)

pub some_account : (h : List Entry) → 1 ≤ account_count h
some_account [] = omega arith
some_account (e ∷ h) = step (accepted e) (account_count h) (some_account h)
  where
    step : (o : Option Command) (n : ℕ) → 1 ≤ n → 1 ≤ counted o n
    step (Some (CreateAccount name)) n p = omega arith
    step _ n p = p

-- the next number has no name yet
pub next_unnamed : (h : List Entry) (n : ℕ) (name : List ℕ) → name_of h n ≡ Some name → (n == account_count h + 1) ≡ false
next_unnamed h n name some =
    let there : is_account h n ≡ true = sym (named_account h n) ∙ ap is_some some in
    let p = and_parts (nat_le 1 n) (nat_le n (account_count h)) there in
    le_ne n (account_count h) p.1
  where
    le_ne : (n c : ℕ) → nat_le n c ≡ true → (n == c + 1) ≡ false
    le_ne n c t = grind (arith, nat_tests)

-- a name that an account has is taken
taken_step : (o : Option Command) (n next : ℕ) (name : List ℕ) (before : Option (List ℕ)) (was : Bool) → (before ≡ Some name → was ≡ true) →
    named o n next before ≡ Some name → is_named o name was ≡ true
taken_step (Some (CreateAccount given)) n next name before was taken some = ⊎_elim
    (λ (t : (n == next) ≡ true).
    let is : Some given ≡ Some name = sym (ap (λ b. cond b (Some given) before) t) ∙ some in
    let same : given ≡ name = cc in
    ap (λ b. b || was) ((bytes_eq-Decides given name).1 same))
    (λ (f : (n == next) ≡ false).
    let is : before ≡ Some name = sym (ap (λ b. cond b (Some given) before) f) ∙ some in
    ap (λ b. bytes_eq given name || b) (taken is) ∙ or_true (bytes_eq given name))
    (cases_Bool (n == next))
  where
    or_true : (b : Bool) → (b || true) ≡ true
    or_true true = refl
    or_true false = refl
taken_step _ n next name before was taken some = taken some

pub name_is_taken : (h : List Entry) (n : ℕ) (name : List ℕ) → name_of h n ≡ Some name → name_taken h name ≡ true
name_is_taken [] n name some = ⊎_elim
    (λ (t : (n == 1) ≡ true).
    let is : Some admin_name ≡ Some name = sym (ap (λ b. cond b (Some admin_name) None) t) ∙ some in
    let same : admin_name ≡ name = cc in
    (bytes_eq-Decides admin_name name).1 same)
    (λ (f : (n == 1) ≡ false).
    let is : None ≡ Some name = sym (ap (λ b. cond b (Some admin_name) None) f) ∙ some in absurd (cc))
    (cases_Bool (n == 1))
name_is_taken (e ∷ h) n name some = taken_step (accepted e) n (account_count h + 1) name (name_of h n) (name_taken h name) (name_is_taken h n name) some

-- and a taken name is an account's
free_step : (o : Option Command) (h : List Entry) (name : List ℕ) → (name_taken h name ≡ true → (n : ℕ) × (name_of h n ≡ Some name)) →
    is_named o name (name_taken h name) ≡ true → (n : ℕ) × (named o n (account_count h + 1) (name_of h n) ≡ Some name)
free_step (Some (CreateAccount given)) h name found taken = ⊎_elim
    (λ (t : bytes_eq given name ≡ true).
    (account_count h + 1, ap (λ b. cond b (Some given) (name_of h (account_count h + 1))) (eq-eqb (account_count h + 1) (account_count h + 1) refl) ∙ ap Some ((bytes_eq-Decides given name).0 t)))
    (λ (f : bytes_eq given name ≡ false).
    let r = found (sym (ap (λ b. b || name_taken h name) f) ∙ taken) in
    (r.0, ap (λ b. cond b (Some given) (name_of h r.0)) (next_unnamed h r.0 name r.1) ∙ r.1))
    (cases_Bool (bytes_eq given name))
free_step _ h name found taken = found taken

pub taken_name_is : (h : List Entry) (name : List ℕ) → name_taken h name ≡ true → (n : ℕ) × (name_of h n ≡ Some name)
taken_name_is [] name taken = (1, ap Some ((bytes_eq-Decides admin_name name).0 taken))
taken_name_is (e ∷ h) name taken = free_step (accepted e) h name (taken_name_is h name) taken

named_from : (o : Option (List ℕ)) (name : List ℕ) → option_map AccountRow o ≡ Some (AccountRow name) → o ≡ Some name
named_from None name e = absurd (cc)
named_from (Some x) name e = let same : x ≡ name = cc in ap Some same

-- what was found by name tells whether it is taken
pub found_taken : (reading : Reading) (h : List Entry) (name : List ℕ) (found : Option ℕ) → IsFoundByName (fact reading h) name found → is_some found ≡ name_taken h name
found_taken reading h name (Some n) is = sym (name_is_taken h n name (named_from (name_of h n) name is))
found_taken reading h name None none = ⊎_elim
    (λ (t : name_taken h name ≡ true). let r = taken_name_is h name t in absurd (none r.0 (ap (option_map AccountRow) r.1)))
    (λ (f : name_taken h name ≡ false). sym f)
    (cases_Bool (name_taken h name))

account_fact : (reading : Reading) (h : List Entry) (n : ℕ) → is_some (fact reading h (AccountKey n)) ≡ is_account h n
account_fact reading h n = some_mapped AccountRow (name_of h n) ∙ named_account h n

-- the greatest number is that of the last account
pub last_is : (reading : Reading) (h : List Entry) (last : ℕ) → IsLast AccountKey (fact reading h) last → last ≡ account_count h
last_is reading h last l =
    let some = some_account h in
    let reached : account_count h ≤ last =
    ⊎_elim (λ (lt : last < account_count h). absurd (not_above lt)) (λ (ge : account_count h ≤ last). ge) (cases_lt last (account_count h)) in ⊎_elim
    (λ (is_zero : last ≡ 0). absurd (omega arith))
    (λ (there : IsSome (fact reading h (AccountKey last))).
    let p = and_parts (nat_le 1 last) (nat_le last (account_count h)) (sym (account_fact reading h last) ∙ there) in
    let below : last ≤ account_count h = leb-true last (account_count h) p.1 in
    omega arith)
    l.there
  where
    not_above : last < account_count h → ⊥
    not_above lt =
        let none = l.above (account_count h) lt in
        let some = some_account h in
        let there : is_some (fact reading h (AccountKey (account_count h))) ≡ true = account_fact reading h (account_count h) ∙ in_range (account_count h) some in
        let bad : true ≡ false = sym there ∙ ap is_some none in
        absurd (cc)
      where
        in_range : (c : ℕ) → 1 ≤ c → (nat_le 1 c && nat_le c c) ≡ true
        in_range c p = grind (arith, nat_tests)

-- the row of an account tells whether it is there
pub account_is : (reading : Reading) (h : List Entry) (n : ℕ) (o : Option (List ℕ)) → option_map AccountRow o ≡ fact reading h (AccountKey n) → is_some o ≡ is_account h n
account_is reading h n o e = sym (some_mapped AccountRow o) ∙ (ap is_some e ∙ account_fact reading h n)

-- ==== what rows that agree with a history tell of it, look-up by look-up

-- the rows agree with the history
abbrev pub Agree : Reading → List Entry → Rows → Type 0
Agree reading h rows = Agrees (view reading h) rows

-- whether a number is that of an account
pub account_told : (reading : Reading) (h : List Entry) (rows : Rows) (n : ℕ) → Agree reading h rows → IsKnown rows (want.Account n) → is_there (known rows (want.Account n)) ≡ is_account h n
account_told reading h rows n agree there =
    let r = found_of (view reading h) rows (want.Account n) agree there in
    ap is_there (r.1 ∙ ap Some r.2.1) ∙ account_is reading h n r.2.0 (sym r.2.2)

some_where : (b : Bool) → is_some (cond b (Some MemberRow) None) ≡ b
some_where true = refl
some_where false = refl

-- whether an account is a member of a group
pub member_told : (reading : Reading) (h : List Entry) (rows : Rows) (group : List ℕ) (n : ℕ) → Agree reading h rows → IsKnown rows (want.Member (record { group = group; account = n })) →
    is_so (known rows (want.Member (record { group = group; account = n }))) ≡ is_listed h group n
member_told reading h rows group n agree there =
    let r = found_of (view reading h) rows (want.Member (record { group = group; account = n })) agree there in
    ap is_so (r.1 ∙ ap Some r.2.1) ∙ (sym (some_where r.2.0) ∙ (sym (ap is_some r.2.2) ∙ some_where (is_listed h group n)))

some_member : (o : Option (Unit {0})) → is_some (member_row o) ≡ is_some o
some_member None = refl
some_member (Some u) = refl

-- whether an account was a member of a group whose members are known
pub held_told : (reading : Reading) (h : List Entry) (rows : Rows) (group : List ℕ) (n : ℕ) → Agree reading h rows → IsKnown rows (want.Group group) →
    is_some (row_in nat_cmp (members_of (known rows (want.Group group))) n) ≡ is_listed h group n
held_told reading h rows group n agree there =
    let r = found_of (view reading h) rows (want.Group group) agree there in
    ap (λ o. is_some (row_in nat_cmp (members_of o) n)) (r.1 ∙ ap Some r.2.1)
    ∙ (sym (some_member (row_in nat_cmp r.2.0 n)) ∙ (sym (ap is_some (r.2.2 n)) ∙ some_where (is_listed h group n)))

-- whether a name is taken
pub holder_told : (reading : Reading) (h : List Entry) (rows : Rows) (name : List ℕ) → Agree reading h rows → IsKnown rows (want.AccountNamed name) →
    is_some (holder_of (known rows (want.AccountNamed name))) ≡ name_taken h name
holder_told reading h rows name agree there =
    let r = found_of (view reading h) rows (want.AccountNamed name) agree there in
    ap (λ o. is_some (holder_of o)) (r.1 ∙ ap Some r.2.1) ∙ found_taken reading h name r.2.0 r.2.2

-- the number of accounts
pub last_told : (reading : Reading) (h : List Entry) (rows : Rows) → Agree reading h rows → IsKnown rows want.LastAccount → number_of (known rows want.LastAccount) ≡ account_count h
last_told reading h rows agree there =
    let r = found_of (view reading h) rows want.LastAccount agree there in
    ap number_of (r.1 ∙ ap Some r.2.1) ∙ last_is reading h r.2.0 r.2.2

-- the least open epoch
pub least_told : (reading : Reading) (h : List Entry) (rows : Rows) → Agree reading h rows → IsKnown rows want.LeastEpoch → number_of (known rows want.LeastEpoch) ≡ least_open h
least_told reading h rows agree there =
    let r = found_of (view reading h) rows want.LeastEpoch agree there in
    ap number_of (r.1 ∙ ap Some r.2.1) ∙ r.2.2

some_file : (o : Option StoredFile) → is_some (option_map FileRow o) ≡ is_some o
some_file None = refl
some_file (Some t) = refl

-- whether a project is there
pub project_told : (reading : Reading) (h : List Entry) (rows : Rows) (project : List ℕ) → Agree reading h rows → IsKnown rows (want.Project project) → is_so (known rows (want.Project project)) ≡ is_project h project
project_told reading h rows project agree there =
    let r = found_of (view reading h) rows (want.Project project) agree there in
    ap is_so (r.1 ∙ ap Some r.2.1) ∙ (sym r.2.2 ∙ (some_file (own_of h project) ∙ sym (there_is h project)))

-- whether there is room for one more
pub room_told : (reading : Reading) (h : List Entry) (rows : Rows) (of : Counted) → Agree reading h rows → IsKnown rows (want.Room of) →
    is_so (known rows (want.Room of)) ≡ nat_lt (counted_in h (count_of of)) (most (count_of of))
room_told reading h rows of agree there =
    let r = found_of (view reading h) rows (want.Room of) agree there in
    ap is_so (r.1 ∙ ap Some r.2.1) ∙ sym r.2.2

-- ---- the bases of a branch, by place

-- the last place is the number of bases
pub last_place_is : (bs : List (List ℕ)) (last : ℕ) → ((n : ℕ) → last < n → option_map BaseRow (at_place bs n) ≡ None) →
    (last ≡ 0) ⊎ IsSome (option_map BaseRow (at_place bs last)) → last ≡ length bs
last_place_is bs last above there =
    let reached : length bs ≤ last = ⊎_elim (λ (lt : last < length bs). absurd (not_above bs last lt above)) (λ (ge : length bs ≤ last). ge) (cases_lt last (length bs)) in
    let within : last ≤ length bs = ⊎_elim (λ (lt : length bs < last). absurd (too_far lt)) (λ (ge : last ≤ length bs). ge) (cases_lt (length bs) last) in
    omega arith
  where
    not_above : (bs : List (List ℕ)) (last : ℕ) → last < length bs → ((n : ℕ) → last < n → option_map BaseRow (at_place bs n) ≡ None) → ⊥
    not_above bs last lt above =
        let none = above (length bs) lt in
        let there : is_some (option_map BaseRow (at_place bs (length bs))) ≡ true = some_mapped BaseRow (at_place bs (length bs)) ∙ some_at bs (length bs) (omega arith) (omega arith) in
        let bad : true ≡ false = sym there ∙ ap is_some none in
        absurd (cc)

    too_far : length bs < last → ⊥
    too_far lt =
        let none : option_map BaseRow (at_place bs last) ≡ None = ap (option_map BaseRow) (past_end bs last lt) in
        ⊎_elim (λ (z : last ≡ 0). absurd (omega arith)) (λ (s : IsSome (option_map BaseRow (at_place bs last))). let bad : true ≡ false = sym s ∙ ap is_some none in absurd (cc)) there

pub place_told : (reading : Reading) (h : List Entry) (rows : Rows) (key : Branch) → Agree reading h rows → IsKnown rows (want.LastPlace key) →
    number_of (known rows (want.LastPlace key)) ≡ length (bases h key.project key.branch)
place_told reading h rows key agree there =
    let r = found_of (view reading h) rows (want.LastPlace key) agree there in
    ap number_of (r.1 ∙ ap Some r.2.1) ∙ last_place_is (bases h key.project key.branch) r.2.0 r.2.2.above r.2.2.there

base_or_not : (reading : Reading) (h : List Entry) (base : Base) (is : Bool) → IsBaseOrNot (fact reading h) base is → is ≡ is_base h base.project base.branch base.commit
base_or_not reading h base true there =
    sym (listed_at (bases h base.project base.branch) base.commit there.0 (based_from (at_place (bases h base.project base.branch) there.0) (Some base.commit) there.1))
base_or_not reading h base false none = ⊎_elim
    (λ (t : is_base h base.project base.branch base.commit ≡ true).
    let r = placed_at (bases h base.project base.branch) base.commit t in absurd (none (suc r.0) (ap (option_map BaseRow) r.1)))
    (λ (f : is_base h base.project base.branch base.commit ≡ false). sym f)
    (cases_Bool (is_base h base.project base.branch base.commit))

-- whether a commit is a base
pub base_told : (reading : Reading) (h : List Entry) (rows : Rows) (base : Base) → Agree reading h rows → IsKnown rows (want.Base base) →
    is_so (known rows (want.Base base)) ≡ is_base h base.project base.branch base.commit
base_told reading h rows base agree there =
    let r = found_of (view reading h) rows (want.Base base) agree there in
    ap is_so (r.1 ∙ ap Some r.2.1) ∙ base_or_not reading h base r.2.0 r.2.2

-- lists with the same at each place are the same
same_list : (xs ys : List (List ℕ)) → ((n : ℕ) → option_map BaseRow (at_place xs n) ≡ option_map BaseRow (at_place ys n)) → xs ≡ ys
same_list [] [] same = refl
same_list [] (y ∷ ys) same = let e : None ≡ Some (BaseRow y) = same 1 in absurd (cc)
same_list (x ∷ xs) [] same = let e : Some (BaseRow x) ≡ None = same 1 in absurd (cc)
same_list (x ∷ xs) (y ∷ ys) same =
    let e : Some (BaseRow x) ≡ Some (BaseRow y) = same 1 in
    let first : x ≡ y = cc in
    λ i. first i ∷ same_list xs ys (λ n. rest n) i
  where
    rest : (n : ℕ) → option_map BaseRow (at_place xs n) ≡ option_map BaseRow (at_place ys n)
    rest zero = ap (option_map BaseRow) (nothing_at_zero xs) ∙ sym (ap (option_map BaseRow) (nothing_at_zero ys))
    rest (suc n) = same (suc (suc n))

-- the bases of a branch
pub bases_told : (reading : Reading) (h : List Entry) (rows : Rows) (key : Branch) → Agree reading h rows → IsKnown rows (want.Bases key) → commits_of (known rows (want.Bases key)) ≡ bases h key.project key.branch
bases_told reading h rows key agree there =
    let r = found_of (view reading h) rows (want.Bases key) agree there in
    ap commits_of (r.1 ∙ ap Some r.2.1) ∙ same_list r.2.0 (bases h key.project key.branch) (λ n. sym (r.2.2 n))

-- ==== what rows that agree with a history tell of a commit in a branch

sent_told : (reading : Reading) (h : List Entry) (rows : Rows) (base : Base) → Agree reading h rows → IsKnown rows (want.ChangeOf base) →
    is_some (holder_of (known rows (want.ChangeOf base))) ≡ is_sent reading h base.project base.branch base.commit
sent_told reading h rows base agree there =
    let r = found_of (view reading h) rows (want.ChangeOf base) agree there in
    ap (λ o. is_some (holder_of o)) (r.1 ∙ ap Some r.2.1) ∙ sent_is reading h base r.2.0 r.2.2

-- whether a commit is known in a branch
pub known_told : (reading : Reading) (h : List Entry) (rows : Rows) (project branch commit : List ℕ) → Agree reading h rows →
    IsKnown rows (want.Base (record { project = project; branch = branch; commit = commit })) → IsKnown rows (want.ChangeOf (record { project = project; branch = branch; commit = commit })) →
    known_in rows project branch commit ≡ is_known reading h project branch commit
known_told reading h rows project branch commit agree based sent =
    λ i. base_told reading h rows (record { project = project; branch = branch; commit = commit }) agree based i
    || sent_told reading h rows (record { project = project; branch = branch; commit = commit }) agree sent i

-- ==== what rows that agree with a history tell of its changes

-- a change
pub change_told : (reading : Reading) (h : List Entry) (rows : Rows) (n : ℕ) → Agree reading h rows → IsKnown rows (want.Change n) → change_in (known rows (want.Change n)) ≡ change reading h n
change_told reading h rows n agree there =
    let r = found_of (view reading h) rows (want.Change n) agree there in
    ap change_in (r.1 ∙ ap Some r.2.1) ∙ rows_tell r.2.0 (change reading h n) (λ part. sym (r.2.2 part))

-- how many changes there are
pub last_change_told : (reading : Reading) (h : List Entry) (rows : Rows) → Agree reading h rows → IsKnown rows want.LastChange → number_of (known rows want.LastChange) ≡ change_count h
last_change_told reading h rows agree there =
    let r = found_of (view reading h) rows want.LastChange agree there in
    ap number_of (r.1 ∙ ap Some r.2.1) ∙ last_change_is reading h r.2.0 r.2.2

-- ==== the bases of a branch among those of its project

-- a branch has no more bases than its project
pub branch_within : (h : List Entry) (project branch : List ℕ) → length (bases h project branch) ≤ base_count h project
branch_within [] project branch = omega arith
branch_within (e ∷ h) project branch = step (accepted e) (bases h project branch) (base_count h project) (branch_within h project branch)
  where
    more : (t u : Bool) (commit : List ℕ) (bs : List (List ℕ)) (n : ℕ) → length bs ≤ n → length (cond (t && u) (bs ++ commit ∷ []) bs) ≤ cond t (n + 1) n
    more true true commit bs n le = let e = length-append bs (commit ∷ []) in omega arith
    more true false commit bs n le = omega arith
    more false u commit bs n le = le

    step : (o : Option Command) (bs : List (List ℕ)) (n : ℕ) → length bs ≤ n → length (with_base o project branch bs) ≤ base_counted o project n
    step (Some (RecordBase p b commit)) bs n le = more (bytes_eq p project) (bytes_eq b branch) commit bs n le
    step _ bs n le = le

-- ==== what the loaded rows tell of who asks a question, and the answer from its checks

-- whether the caller is an account
pub asker_is : (reading : Reading) (file : Option File) (h : List Entry) (caller : ℕ) (query : Query) (rows : Rows) → AreEnough reading h caller (OfQuery query) file rows → is_there (known rows (want.Account caller)) ≡ is_account h caller
asker_is reading file h caller (asked.Branch project branch) rows l = account_told reading h rows caller l.agree (all_asked file rows caller (OfQuery (asked.Branch project branch)) l.nothing_left).0
asker_is reading file h caller (asked.OnChange n query) rows l = account_told reading h rows caller l.agree (all_asked file rows caller (OfQuery (asked.OnChange n query)) l.nothing_left).0

-- a question that a check refuses, and one that none refuses
pub refused_question : (reading : Reading) (h : List Entry) (caller : ℕ) (query : Query) (refusal : Refusal) → query_refused_by reading h caller query ≡ Some refusal → IsQueryAnswerBy reading h caller query (Refused refusal)
refused_question reading h caller query refusal is =
    subst (λ o. MatchOption o ((told : Answer) × IsToldTo reading h query told × (Refused refusal ≡ Done told)) (λ r. Refused refusal ≡ Refused r)) (sym is) refl

pub told_question : (reading : Reading) (h : List Entry) (caller : ℕ) (query : Query) (told : Answer) → query_refused_by reading h caller query ≡ None → IsToldTo reading h query told → IsQueryAnswerBy reading h caller query (Done told)
told_question reading h caller query told none is =
    subst (λ o. MatchOption o ((x : Answer) × IsToldTo reading h query x × (Done told ≡ Done x)) (λ r. Done told ≡ Refused r)) (sym none) (told, is, refl)

-- who is no account is refused, whatever the question
pub unknown_asker : (reading : Reading) (h : List Entry) (caller : ℕ) (query : Query) → is_account h caller ≡ false → IsQueryAnswerBy reading h caller query (Refused UnknownCaller)
unknown_asker reading h caller query none =
    refused_question reading h caller query UnknownCaller (ap (λ a. cond a (first_refusal (query_checks reading h query)) (Some UnknownCaller)) none)
