-- Patch sets and bases of a branch: what adds to them, that they stay, and that each has a commit of its own.
use Rattle.std.proofs.Common.{◌≡◌, ℕ, ◌+◌, ◌==◌, List, ◌∷◌, length, Option, Some, None, Bool, true, false, cond, ◌⊎◌, inl, inr, refl, sym, ap, ◌∙◌, eqb-true, option_map, bytes_eq, zero, suc, [], ◌++◌, ◌&&◌, ◌||◌, ⊎_elim, is_some, slice_get, subst}
use Rattle.std.proofs.lemmas.Bool.{or_cases, not-true, and_parts, cases_Bool, and_from}
use Rattle.review_names.specs.declared.kinds.ChangeKind.TheVariants.{Rework}
use Rattle.review_words.specs.History.{Entry, accepted, if_done, is_account, bases, is_base, with_base}
use Rattle.review_core_rules.specs.Change.{Change, after, begun, current, of_number, patches_by, joined_at, current_patch}
use Rattle.review_machine_rows.proofs.Common.{AllByRecursion, Answer, ChangeCommand, Command, CreateChange, Done, OnChange, PatchRow, RecordBase, Reply, UnknownCaller, bytes_eq-Decides, list_any, or-true}
use Rattle.review_machine_rows.proofs.Readings.{IsDoneBy, done_of}
use Rattle.review_machine_rows.specs.Answer.{IsAnswerBy, IsHistory, checks, request_checks}
use Rattle.review_machine_rows.specs.Changes.{Reading, Reads, change, change_by, change_count, is_for, is_known, setting_of, submitted, has_commit, is_sent, joined, joining_at, place_in}
use Rattle.review_machine_rows.specs.Desks.{facts_of}
use Rattle.review_machine_laws.proofs.Changes.{joining_keeps, one_passing, some_passes, Passes, all_pass, checks_pass, done_passes, change_there, is_up_to}
use Rattle.review_machine_laws.proofs.Joined.{past}
use Rattle.review_machine_laws.proofs.Places.{appended, only, kept, last_of, number_within}
use Rattle.review_machine_laws.specs.Patches.{HasPatch}
use Rattle.review_words.specs.declared.command.ChangeCommand.TheVariants as on

-- ==== what an entry adds to the patch sets and the bases of a branch

-- where a command puts a new patch set: at the number of its change, and its own
abbrev pub place_sent : Reading → List Entry → Option Command → Option (ℕ × ℕ)
place_sent reading h (Some (CreateChange new)) = Some (change_count h + 1, 1)
place_sent reading h (Some (OnChange n (on.Upload patch))) = option_map (λ c. (n, current c + 1)) (change reading h n)
place_sent reading h _ = None

-- a command sends a patch set: there it stands, its commit wasn't known in the branch, and what it stands on was
pub record IsSentNow (reading : Reading) (h : List Entry) (o : Option Command) (project branch : List ℕ) (n k : ℕ) (p : PatchRow) : Type 0 where
  pub put : place_sent reading h o ≡ Some (n, k)
  pub unknown : is_known reading h project branch p.commit ≡ false
  pub based : is_known reading h project branch p.parent ≡ true

-- a patch set after a command was there before, or the command sends it
abbrev pub Came : Reading → List Entry → Option Command → List ℕ → List ℕ → ℕ → ℕ → PatchRow → Type 0
Came reading h o project branch n k p = HasPatch project branch k p (change reading h n) ⊎ IsSentNow reading h o project branch n k p

pub for_project : (project branch : List ℕ) (c : Change) → is_for project branch c ≡ true → c.project ≡ project
for_project project branch c e = (bytes_eq-Decides c.project project).0 (and_parts (bytes_eq c.project project) (bytes_eq c.branch branch) e).0

pub for_branch : (project branch : List ℕ) (c : Change) → is_for project branch c ≡ true → c.branch ≡ branch
for_branch project branch c e = (bytes_eq-Decides c.branch branch).0 (and_parts (bytes_eq c.project project) (bytes_eq c.branch branch) e).1

-- of what was asked of a change
asked_came : (reading : Reading) (h : List Entry) (caller : ℕ) (project branch : List ℕ) (m n k : ℕ) (p : PatchRow) (x : Change) (command : ChangeCommand) → m ≡ n → change reading h n ≡ Some x →
    AllByRecursion Passes (request_checks (facts_of reading h) caller command x) → is_for project branch x ≡ true → of_number (patches_by command caller x.patches) k ≡ Some p →
    Came reading h (Some (OnChange m command)) project branch n k p
asked_came reading h caller project branch m n k p x (on.Upload patch) same is pass for sent =
    by (appended x.patches (record { commit = patch.commit; parent = patch.parent; kind = patch.kind; uploader = caller; paths = patch.paths }) p k sent)
  where
    one : x.project ≡ project
    one = for_project project branch x for

    two : x.branch ≡ branch
    two = for_branch project branch x for

    by : (of_number x.patches k ≡ Some p) ⊎ ((k ≡ length x.patches + 1) × (record { commit = patch.commit; parent = patch.parent; kind = patch.kind; uploader = caller; paths = patch.paths } ≡ p)) →
        Came reading h (Some (OnChange m (on.Upload patch))) project branch n k p
    by (inl was) = inl (record { of = x; is = is; is_for_it = for; sent = was })
    by (inr (last, new)) =
        inr
        (record {
          put = ap (option_map (λ (c : Change). (m, current c + 1))) (ap (change reading h) same ∙ is) ∙ (λ i. Some (same i, sym last i));
          unknown = (λ i. is_known reading h (sym one i) (sym two i) (sym new i).commit) ∙ not-true (is_known reading h x.project x.branch patch.commit) pass.1.1.0;
          based = (λ i. is_known reading h (sym one i) (sym two i) (sym new i).parent) ∙ pass.1.1.1.0;
        })
asked_came reading h caller project branch m n k p x _ same is pass for sent = inl (record { of = x; is = is; is_for_it = for; sent = sent })

-- of a command that was done
done_came : (reading : Reading) (h : List Entry) (caller : ℕ) (project branch : List ℕ) (n k : ℕ) (p : PatchRow) (c : Change) (command : Command) (a : Answer) → IsAnswerBy reading h caller command (Done a) →
    change_by reading h caller (Some command) n (change reading h n) ≡ Some c → is_for project branch c ≡ true → of_number c.patches k ≡ Some p → Came reading h (Some command) project branch n k p
done_came reading h caller project branch n k p c (CreateChange new) a answer is for sent = by (change_count h + 1 == n) refl is
  where
    by : (b : Bool) → (change_count h + 1 == n) ≡ b → cond b (Some (begun new caller (length h + 1))) (change reading h n) ≡ Some c → Came reading h (Some (CreateChange new)) project branch n k p
    by false other is = inl (record { of = c; is = is; is_for_it = for; sent = sent })
    by true next is =
        let same : begun new caller (length h + 1) ≡ c = cc in
        let pass = all_pass ((is_account h caller, UnknownCaller) ∷ checks (facts_of reading h) caller (CreateChange new)) (done_passes reading h caller (CreateChange new) a answer) in
        let here = eqb-true (change_count h + 1) n next in
        let one : new.project ≡ project = ap (λ (x : Change). x.project) same ∙ for_project project branch c for in
        let two : new.branch ≡ branch = ap (λ (x : Change). x.branch) same ∙ for_branch project branch c for in
        let first = only (record { commit = new.commit; parent = new.parent; kind = Rework; uploader = caller; paths = new.paths }) p k (ap (λ (x : Change). of_number x.patches k) same ∙ sent) in
        inr
        (record {
          put = λ i. Some (here i, sym first.0 i);
          unknown = (λ i. is_known reading h (sym one i) (sym two i) (sym first.1 i).commit) ∙ not-true (is_known reading h new.project new.branch new.commit) pass.1.1.1.1.0;
          based = (λ i. is_known reading h (sym one i) (sym two i) (sym first.1 i).parent) ∙ pass.1.1.1.1.1.0;
        })
done_came reading h caller project branch n k p c (OnChange m command) a answer is for sent = by (m == n) refl (change reading h n) refl is
  where
    by : (b : Bool) → (m == n) ≡ b → (o : Option Change) → change reading h n ≡ o → cond b (option_map (λ x. after (setting_of reading h x.project) command caller (length h + 1) x) o) o ≡ Some c →
        Came reading h (Some (OnChange m command)) project branch n k p
    by false other o there is = inl (record { of = c; is = there ∙ is; is_for_it = for; sent = sent })
    by true same None there is = absurd (cc)
    by true same (Some x) there is =
        let left : after (setting_of reading h x.project) command caller (length h + 1) x ≡ c = cc in
        let here = eqb-true m n same in
        asked_came reading h caller project branch m n k p x command here there
        (checks_pass reading h caller (request_checks (facts_of reading h) caller command) (change reading h m) x (ap (change reading h) here ∙ there) (done_passes reading h caller (OnChange m command) a answer))
        (ap (λ (y : Change). is_for project branch y) left ∙ for) (ap (λ (y : Change). of_number y.patches k) left ∙ sent)
done_came reading h caller project branch n k p c _ a answer is for sent = inl (record { of = c; is = is; is_for_it = for; sent = sent })

-- of a command with its reply
step_came : (reading : Reading) (h : List Entry) (caller : ℕ) (project branch : List ℕ) (n k : ℕ) (p : PatchRow) (c : Change) (command : Command) (reply : Reply) → IsDoneBy reading h caller command reply →
    change_by reading h caller (if_done reply command) n (change reading h n) ≡ Some c → is_for project branch c ≡ true → of_number c.patches k ≡ Some p → Came reading h (if_done reply command) project branch n k p
step_came reading h caller project branch n k p c command (Done a) answer is for sent = done_came reading h caller project branch n k p c command a answer is for sent
step_came reading h caller project branch n k p c command _ answer is for sent = inl (record { of = c; is = is; is_for_it = for; sent = sent })

-- a patch set after one entry more was there before, or the entry's command sends it
pub came : (reading : Reading) (e : Entry) (h : List Entry) (project branch : List ℕ) (n k : ℕ) (p : PatchRow) → IsHistory (e ∷ h) → Reads reading (e ∷ h) →
    HasPatch project branch k p (change reading (e ∷ h) n) → Came reading h (accepted e) project branch n k p
came reading e h project branch n k p history reads has =
    joining_keeps (λ c. is_for project branch c ≡ true → of_number c.patches k ≡ Some p → Came reading h (accepted e) project branch n k p) (λ place request x holds. holds)
    h (submitted (accepted e) e.reply) n (change_by reading h e.identity.caller (accepted e) n (change reading h n)) has.of
    (λ x there. step_came reading h e.identity.caller project branch n k p x e.command e.reply (done_of e h history reading reads.1) there) has.is has.is_for_it has.sent

-- ==== what is known in a branch stays known

-- ---- a commit that was sent is that of a patch set

-- a patch set with the commit makes a list have it
pub sent_at : (xs : List PatchRow) (commit : List ℕ) (n : ℕ) (p : PatchRow) → slice_get xs n ≡ Some p → p.commit ≡ commit → list_any (λ x. bytes_eq x.commit commit) xs ≡ true
sent_at [] commit n p is same = absurd (cc)
sent_at (x ∷ xs) commit zero p is same =
    let first : x ≡ p = cc in ap (λ b. b || list_any (λ y. bytes_eq y.commit commit) xs) ((bytes_eq-Decides x.commit commit).1 (ap (λ y. y.commit) first ∙ same))
sent_at (x ∷ xs) commit (suc n) p is same = ap (λ b. bytes_eq x.commit commit || b) (sent_at xs commit n p is same) ∙ or-true (bytes_eq x.commit commit)

has_its_commit : (xs : List PatchRow) (commit : List ℕ) (number : ℕ) (p : PatchRow) → of_number xs number ≡ Some p → p.commit ≡ commit → list_any (λ x. bytes_eq x.commit commit) xs ≡ true
has_its_commit xs commit zero p is same = absurd (cc)
has_its_commit xs commit (suc n) p is same = sent_at xs commit n p is same

-- in a list that has the commit a patch set has it
pub sent_from : (xs : List PatchRow) (commit : List ℕ) → list_any (λ x. bytes_eq x.commit commit) xs ≡ true → (n : ℕ) × (p : PatchRow) × (slice_get xs n ≡ Some p) × (p.commit ≡ commit)
sent_from [] commit e = absurd (cc)
sent_from (x ∷ xs) commit e = ⊎_elim
    (λ (t : bytes_eq x.commit commit ≡ true). (0, x, refl, (bytes_eq-Decides x.commit commit).0 t))
    (λ (f : bytes_eq x.commit commit ≡ false).
    let r = sent_from xs commit (sym (ap (λ b. b || list_any (λ y. bytes_eq y.commit commit) xs) f) ∙ e) in (suc r.0, r.1, r.2, r.3))
    (cases_Bool (bytes_eq x.commit commit))

-- the commit of a patch set is sent
pub patch_sent : (reading : Reading) (h : List Entry) (project branch commit : List ℕ) (n k : ℕ) (p : PatchRow) → HasPatch project branch k p (change reading h n) → p.commit ≡ commit →
    is_sent reading h project branch commit ≡ true
patch_sent reading h project branch commit n k p has same =
    some_passes reading h (λ c. is_for project branch c && has_commit commit c) n has.of has.is
    (and_from (is_for project branch has.of) (has_commit commit has.of) has.is_for_it (has_its_commit has.of.patches commit k p has.sent same))

-- a commit that was sent is that of a patch set
pub record IsSent (reading : Reading) (h : List Entry) (project branch commit : List ℕ) : Type 0 where
  pub number : ℕ
  pub place : ℕ
  pub patch : PatchRow
  pub has : HasPatch project branch place patch (change reading h number)
  pub commit_is : patch.commit ≡ commit

-- where a commit was sent, a patch set has it
pub sent_patch : (reading : Reading) (h : List Entry) (project branch commit : List ℕ) → is_sent reading h project branch commit ≡ true → IsSent reading h project branch commit
sent_patch reading h project branch commit e =
    let r = one_passing reading h (λ c. is_for project branch c && has_commit commit c) (change_count h) e in
    let parts = and_parts (is_for project branch r.1) (has_commit commit r.1) r.3 in
    let sent = sent_from r.1.patches commit parts.1 in
    record { number = r.0; place = suc sent.0; patch = sent.1; has = record { of = r.1; is = r.2; is_for_it = parts.0; sent = sent.2 }; commit_is = sent.3 }

-- ---- a patch set stays

-- a request on a change keeps the numbers of its patch sets
pub patches_kept : (command : ChangeCommand) (caller : ℕ) (xs : List PatchRow) (k : ℕ) (p : PatchRow) → of_number xs k ≡ Some p → of_number (patches_by command caller xs) k ≡ Some p
patches_kept (on.Upload patch) caller xs k p is = kept xs (record { commit = patch.commit; parent = patch.parent; kind = patch.kind; uploader = caller; paths = patch.paths } ∷ []) p k is
patches_kept _ caller xs k p is = is

-- the next number is that of no change yet
none_next : (reading : Reading) (h : List Entry) (n : ℕ) (c : Change) → change_count h + 1 ≡ n → change reading h n ≡ Some c → ⊥
none_next reading h n c next is =
    let bad : true ≡ false = ap is_some (sym is) ∙ (change_there reading h n ∙ (ap (is_up_to (change_count h)) (sym next) ∙ past (change_count h))) in
    absurd (cc)

-- where a change is made, of a number that had none
stays_made : (project branch : List ℕ) (k : ℕ) (p : PatchRow) (b : Bool) (new : Change) (o : Option Change) → (b ≡ true → (c : Change) → o ≡ Some c → ⊥) → HasPatch project branch k p o → HasPatch project branch k p (cond b (Some new) o)
stays_made project branch k p true new o none has = absurd (none refl has.of has.is)
stays_made project branch k p false new o none has = has

-- where something is asked of a change, which stays for its branch
stays_asked : (project branch : List ℕ) (k : ℕ) (p : PatchRow) (b : Bool) (f : Change → Change) (o : Option Change) →
    ((x : Change) → is_for project branch (f x) ≡ is_for project branch x) → ((x : Change) → of_number x.patches k ≡ Some p → of_number (f x).patches k ≡ Some p) →
    HasPatch project branch k p o → HasPatch project branch k p (cond b (option_map f o) o)
stays_asked project branch k p true f o same keeps has = record { of = f has.of; is = ap (option_map f) has.is; is_for_it = same has.of ∙ has.is_for_it; sent = keeps has.of has.sent }
stays_asked project branch k p false f o same keeps has = has

-- a patch set stays after a command
stays_by : (reading : Reading) (h : List Entry) (caller : ℕ) (o : Option Command) (project branch : List ℕ) (n k : ℕ) (p : PatchRow) → HasPatch project branch k p (change reading h n) →
    HasPatch project branch k p (change_by reading h caller o n (change reading h n))
stays_by reading h caller (Some (CreateChange new)) project branch n k p has =
    stays_made project branch k p (change_count h + 1 == n) (begun new caller (length h + 1)) (change reading h n) (λ next c is. none_next reading h n c (eqb-true (change_count h + 1) n next) is) has
stays_by reading h caller (Some (OnChange m command)) project branch n k p has =
    stays_asked project branch k p (m == n) (λ x. after (setting_of reading h x.project) command caller (length h + 1) x) (change reading h n) (λ x. refl)
    (λ x is. patches_kept command caller x.patches k p is) has
stays_by reading h caller _ project branch n k p has = has

-- and where changes join their branch
stays_joined : (h : List Entry) (project branch : List ℕ) (k : ℕ) (p : PatchRow) (place : Option ℕ) (o : Option Change) → HasPatch project branch k p o → HasPatch project branch k p (joining_at h place o)
stays_joined h project branch k p None o has = has
stays_joined h project branch k p (Some place) o has = record {
  of = joined_at (length (joined h has.of.project has.of.branch) + place) (length h + 1) has.of;
  is = ap (joining_at h (Some place)) has.is;
  is_for_it = has.is_for_it;
  sent = has.sent;
}

-- a patch set that was there stays
pub patch_stays : (reading : Reading) (e : Entry) (h : List Entry) (project branch : List ℕ) (n k : ℕ) (p : PatchRow) → HasPatch project branch k p (change reading h n) →
    HasPatch project branch k p (change reading (e ∷ h) n)
patch_stays reading e h project branch n k p has =
    stays_joined h project branch k p (place_in (submitted (accepted e) e.reply) n) (change_by reading h e.identity.caller (accepted e) n (change reading h n))
    (stays_by reading h e.identity.caller (accepted e) project branch n k p has)

-- ---- a base stays

-- a list with one more has what it had, or that one
any_before : (xs : List (List ℕ)) (y x : List ℕ) → list_any (λ base. bytes_eq base x) (xs ++ y ∷ []) ≡ (list_any (λ base. bytes_eq base x) xs || bytes_eq y x)
any_before [] y x = or_false (bytes_eq y x)
  where
    or_false : (b : Bool) → (b || false) ≡ b
    or_false true = refl
    or_false false = refl
any_before (z ∷ xs) y x = ap (λ b. bytes_eq z x || b) (any_before xs y x) ∙ or_assoc (bytes_eq z x)
  where
    or_assoc : (b : Bool) → (b || (list_any (λ base. bytes_eq base x) xs || bytes_eq y x)) ≡ ((b || list_any (λ base. bytes_eq base x) xs) || bytes_eq y x)
    or_assoc true = refl
    or_assoc false = refl

-- whether a commit is a base once one more is recorded, if it is
pub one_more_base : (b : Bool) (xs : List (List ℕ)) (y x : List ℕ) → list_any (λ base. bytes_eq base x) (cond b (xs ++ y ∷ []) xs) ≡ (list_any (λ base. bytes_eq base x) xs || (b && bytes_eq y x))
one_more_base true xs y x = any_before xs y x
one_more_base false xs y x = or_false (list_any (λ base. bytes_eq base x) xs)
  where
    or_false : (b : Bool) → b ≡ (b || false)
    or_false true = refl
    or_false false = refl

-- a command drops no base
with_base_keeps : (o : Option Command) (project branch : List ℕ) (xs : List (List ℕ)) (x : List ℕ) → list_any (λ base. bytes_eq base x) xs ≡ true → list_any (λ base. bytes_eq base x) (with_base o project branch xs) ≡ true
with_base_keeps (Some (RecordBase named in_branch commit)) project branch xs x is =
    let b = bytes_eq named project && bytes_eq in_branch branch in
    one_more_base b xs commit x ∙ ap (λ c. c || (b && bytes_eq commit x)) is
with_base_keeps _ project branch xs x is = is

-- ---- what is known stays known

-- one entry more makes nothing unknown
pub known_stays : (reading : Reading) (e : Entry) (h : List Entry) (project branch x : List ℕ) → is_known reading h project branch x ≡ true → is_known reading (e ∷ h) project branch x ≡ true
known_stays reading e h project branch x is = by (or_cases (is_base h project branch x) (is_sent reading h project branch x) is)
  where
    by : (is_base h project branch x ≡ true) ⊎ (is_sent reading h project branch x ≡ true) → is_known reading (e ∷ h) project branch x ≡ true
    by (inl based) = ap (λ b. b || is_sent reading (e ∷ h) project branch x) (with_base_keeps (accepted e) project branch (bases h project branch) x based)
    by (inr sent) =
        let s = sent_patch reading h project branch x sent in
        ap (λ b. is_base (e ∷ h) project branch x || b)
        (patch_sent reading (e ∷ h) project branch x s.number s.place s.patch (patch_stays reading e h project branch s.number s.place s.patch s.has) s.commit_is)
        ∙ or-true (is_base (e ∷ h) project branch x)

-- ==== patch sets in one branch have commits of their own, which are no bases of it

-- what is sent is known
patch_known : (reading : Reading) (h : List Entry) (project branch : List ℕ) (n k : ℕ) (p : PatchRow) → HasPatch project branch k p (change reading h n) → is_known reading h project branch p.commit ≡ true
patch_known reading h project branch n k p has =
    ap (λ b. is_base h project branch p.commit || b) (patch_sent reading h project branch p.commit n k p has refl) ∙ or-true (is_base h project branch p.commit)

-- what is sent now was no commit of a patch set before
new_commit : (reading : Reading) (h : List Entry) (o : Option Command) (project branch : List ℕ) (n k m j : ℕ) (p q : PatchRow) → HasPatch project branch k p (change reading h n) →
    IsSentNow reading h o project branch m j q → p.commit ≡ q.commit → ⊥
new_commit reading h o project branch n k m j p q was now same =
    let bad : true ≡ false = sym (patch_known reading h project branch n k p was) ∙ (ap (is_known reading h project branch) same ∙ now.unknown) in
    absurd (cc)

-- one entry sends one patch set
one_place : (o : Option (ℕ × ℕ)) (n k m j : ℕ) → o ≡ Some (n, k) → o ≡ Some (m, j) → (n ≡ m) × (k ≡ j)
one_place o n k m j a b =
    let same : (n, k) ≡ (m, j) = let e : Some (n, k) ≡ Some (m, j) = sym a ∙ b in cc in
    (ap (λ (x : ℕ × ℕ). x.0) same, ap (λ (x : ℕ × ℕ). x.1) same)

-- patch sets for one branch with the same commit are the same
pub commits_apart : (reading : Reading) (h : List Entry) (project branch : List ℕ) (n k m j : ℕ) (p q : PatchRow) → IsHistory h → Reads reading h →
    HasPatch project branch k p (change reading h n) → HasPatch project branch j q (change reading h m) → p.commit ≡ q.commit → (n ≡ m) × (k ≡ j)
commits_apart reading [] project branch n k m j p q history reads one other same = let bad : None ≡ Some one.of = one.is in absurd (cc)
commits_apart reading (e ∷ h) project branch n k m j p q history reads one other same =
    by (λ a b. commits_apart reading h project branch n k m j p q history.3 reads.1 a b same) (came reading e h project branch n k p history reads one) (came reading e h project branch m j q history reads other)
  where
    by : (HasPatch project branch k p (change reading h n) → HasPatch project branch j q (change reading h m) → (n ≡ m) × (k ≡ j)) →
        Came reading h (accepted e) project branch n k p → Came reading h (accepted e) project branch m j q → (n ≡ m) × (k ≡ j)
    by before (inl a) (inl b) = before a b
    by before (inl a) (inr b) = absurd (new_commit reading h (accepted e) project branch n k m j p q a b same)
    by before (inr a) (inl b) = absurd (new_commit reading h (accepted e) project branch m j n k q p b a (sym same))
    by before (inr a) (inr b) = one_place (place_sent reading h (accepted e)) n k m j a.put b.put

-- ---- bases

-- a base after a command was one before, or the command records it: it sends no patch set, and the commit wasn't known
abbrev pub BaseCame : Reading → List Entry → Option Command → List ℕ → List ℕ → List ℕ → Type 0
BaseCame reading h o project branch x = (is_base h project branch x ≡ true) ⊎ ((place_sent reading h o ≡ None) × (is_known reading h project branch x ≡ false))

-- of a command that was done
base_done : (reading : Reading) (h : List Entry) (caller : ℕ) (project branch x : List ℕ) (command : Command) (a : Answer) → IsAnswerBy reading h caller command (Done a) →
    list_any (λ base. bytes_eq base x) (with_base (Some command) project branch (bases h project branch)) ≡ true → BaseCame reading h (Some command) project branch x
base_done reading h caller project branch x (RecordBase named in_branch commit) a answer is =
    by (or_cases (is_base h project branch x) ((bytes_eq named project && bytes_eq in_branch branch) && bytes_eq commit x)
    (sym (one_more_base (bytes_eq named project && bytes_eq in_branch branch) (bases h project branch) commit x) ∙ is))
  where
    by : (is_base h project branch x ≡ true) ⊎ (((bytes_eq named project && bytes_eq in_branch branch) && bytes_eq commit x) ≡ true) → BaseCame reading h (Some (RecordBase named in_branch commit)) project branch x
    by (inl was) = inl was
    by (inr now) =
        let parts = and_parts (bytes_eq named project && bytes_eq in_branch branch) (bytes_eq commit x) now in
        let places = and_parts (bytes_eq named project) (bytes_eq in_branch branch) parts.0 in
        let one : named ≡ project = (bytes_eq-Decides named project).0 places.0 in
        let two : in_branch ≡ branch = (bytes_eq-Decides in_branch branch).0 places.1 in
        let three : commit ≡ x = (bytes_eq-Decides commit x).0 parts.1 in
        let pass = all_pass ((is_account h caller, UnknownCaller) ∷ checks (facts_of reading h) caller (RecordBase named in_branch commit)) (done_passes reading h caller (RecordBase named in_branch commit) a answer) in
        inr (refl, (λ i. is_known reading h (sym one i) (sym two i) (sym three i)) ∙ not-true (is_known reading h named in_branch commit) pass.1.1.1.0)
base_done reading h caller project branch x _ a answer is = inl is

-- of a command with its reply
base_step : (reading : Reading) (h : List Entry) (caller : ℕ) (project branch x : List ℕ) (command : Command) (reply : Reply) → IsDoneBy reading h caller command reply →
    list_any (λ base. bytes_eq base x) (with_base (if_done reply command) project branch (bases h project branch)) ≡ true → BaseCame reading h (if_done reply command) project branch x
base_step reading h caller project branch x command (Done a) answer is = base_done reading h caller project branch x command a answer is
base_step reading h caller project branch x command _ answer is = inl is

based_known : (a b : Bool) → (a || b) ≡ false → a ≡ true → ⊥
based_known true b none is = absurd (cc)
based_known false b none is = absurd (cc)

not_both : (o : Option (ℕ × ℕ)) (x : ℕ × ℕ) → o ≡ None → o ≡ Some x → ⊥
not_both None x none some = absurd (cc)
not_both (Some y) x none some = absurd (cc)

-- a base isn't the commit of a patch set
pub base_not_sent : (reading : Reading) (h : List Entry) (project branch : List ℕ) (n k : ℕ) (p : PatchRow) → IsHistory h → Reads reading h → HasPatch project branch k p (change reading h n) →
    is_base h project branch p.commit ≡ true → ⊥
base_not_sent reading [] project branch n k p history reads has is = let bad : None ≡ Some has.of = has.is in absurd (cc)
base_not_sent reading (e ∷ h) project branch n k p history reads has is =
    by (λ was based. base_not_sent reading h project branch n k p history.3 reads.1 was based) (came reading e h project branch n k p history reads has)
    (base_step reading h e.identity.caller project branch p.commit e.command e.reply (done_of e h history reading reads.1) is)
  where
    by : (HasPatch project branch k p (change reading h n) → is_base h project branch p.commit ≡ true → ⊥) → Came reading h (accepted e) project branch n k p →
        BaseCame reading h (accepted e) project branch p.commit → ⊥
    by before (inl was) (inl based) = before was based
    by before (inl was) (inr recorded) = let bad : true ≡ false = sym (patch_known reading h project branch n k p was) ∙ recorded.1 in absurd (cc)
    by before (inr now) (inl based) = based_known (is_base h project branch p.commit) (is_sent reading h project branch p.commit) now.unknown based
    by before (inr now) (inr recorded) = not_both (place_sent reading h (accepted e)) (n, k) recorded.0 now.put

-- the commit of a patch set is no base
pub sent_no_base : (reading : Reading) (h : List Entry) (project branch : List ℕ) (n k : ℕ) (p : PatchRow) → IsHistory h → Reads reading h → HasPatch project branch k p (change reading h n) →
    is_base h project branch p.commit ≡ false
sent_no_base reading h project branch n k p history reads has = ⊎_elim
    (λ (t : is_base h project branch p.commit ≡ true). absurd (base_not_sent reading h project branch n k p history reads has t))
    (λ (f : is_base h project branch p.commit ≡ false). f)
    (cases_Bool (is_base h project branch p.commit))

-- ==== what a patch set stands on is known in its branch

-- What a patch set stands on is known in its branch: it was when the patch set was sent, and what is known stays so.
pub parents_known : (reading : Reading) (h : List Entry) (project branch : List ℕ) (n k : ℕ) (p : PatchRow) → IsHistory h → Reads reading h → HasPatch project branch k p (change reading h n) →
    is_known reading h project branch p.parent ≡ true
parents_known reading [] project branch n k p history reads has = let bad : None ≡ Some has.of = has.is in absurd (cc)
parents_known reading (e ∷ h) project branch n k p history reads has =
    by (λ was. parents_known reading h project branch n k p history.3 reads.1 was) (came reading e h project branch n k p history reads has)
  where
    by : (HasPatch project branch k p (change reading h n) → is_known reading h project branch p.parent ≡ true) → Came reading h (accepted e) project branch n k p → is_known reading (e ∷ h) project branch p.parent ≡ true
    by before (inl was) = known_stays reading e h project branch p.parent (before was)
    by before (inr now) = known_stays reading e h project branch p.parent now.based

-- ==== each change has a current patch set

-- it has a first patch set
abbrev pub HasFirst : Change → Type 0
HasFirst c = (p : PatchRow) × (of_number c.patches 1 ≡ Some p)

-- a new change has one
made_first : (b : Bool) (new c : Change) (o : Option Change) → HasFirst new → ((x : Change) → o ≡ Some x → HasFirst x) → cond b (Some new) o ≡ Some c → HasFirst c
made_first true new c o begins before is = let same : new ≡ c = cc in subst HasFirst same begins
made_first false new c o begins before is = before c is

-- it keeps it where something is asked of it
asked_first : (b : Bool) (f : Change → Change) (c : Change) (o : Option Change) → ((x : Change) → HasFirst x → HasFirst (f x)) → ((x : Change) → o ≡ Some x → HasFirst x) → cond b (option_map f o) o ≡ Some c → HasFirst c
asked_first true f c None keeps before is = absurd (cc)
asked_first true f c (Some x) keeps before is = let same : f x ≡ c = cc in subst HasFirst same (keeps x (before x refl))
asked_first false f c o keeps before is = before c is

-- so a change after a command has one
first_by : (reading : Reading) (h : List Entry) (caller n : ℕ) (o : Option Command) (c : Change) → ((x : Change) → change reading h n ≡ Some x → HasFirst x) →
    change_by reading h caller o n (change reading h n) ≡ Some c → HasFirst c
first_by reading h caller n (Some (CreateChange new)) c before is =
    made_first (change_count h + 1 == n) (begun new caller (length h + 1)) c (change reading h n) (_, refl) before is
first_by reading h caller n (Some (OnChange m command)) c before is =
    asked_first (m == n) (λ x. after (setting_of reading h x.project) command caller (length h + 1) x) c (change reading h n)
    (λ x first. (first.0, patches_kept command caller x.patches 1 first.0 first.1)) before is
first_by reading h caller n _ c before is = before c is

-- every change has one
has_first : (reading : Reading) (h : List Entry) (n : ℕ) (c : Change) → change reading h n ≡ Some c → HasFirst c
has_first reading [] n c is = absurd (cc)
has_first reading (e ∷ h) n c is =
    joining_keeps HasFirst (λ place request x first. first) h (submitted (accepted e) e.reply) n (change_by reading h e.identity.caller (accepted e) n (change reading h n)) c
    (λ x there. first_by reading h e.identity.caller n (accepted e) x (λ y was. has_first reading h n y was) there) is

-- the current patch set of a change
pub current_there : (reading : Reading) (h : List Entry) (n : ℕ) (c : Change) → change reading h n ≡ Some c → (p : PatchRow) × (current_patch c ≡ Some p)
current_there reading h n c is = let first = has_first reading h n c is in last_of c.patches (number_within c.patches first.0 1 first.1)
