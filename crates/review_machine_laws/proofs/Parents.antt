-- Branches are sound: what an accepted submit joins was ready, and parents join before their children.
use Rattle.std.proofs.Common.{◌≡◌, ◌⊎◌, inl, inr, ℕ, List, [], ◌∷◌, Option, Some, None, Bool, true, false, cond, refl, sym, ap, subst, ◌∙◌, All, MatchOption, option_map, Contains, zero, suc, ◌+◌, ◌&&◌, ⊎_elim, arith, slice_get, bytes_eq, ◌<◌, ◌++◌, length, option_and_then}
use Rattle.std.proofs.lemmas.List.Elements.{All-from_recursion, recursion_from_All, All-weaker, Contains-append_left, Contains-append_right}
use Rattle.review_words.specs.History.{Entry, is_base, accepted}
use Rattle.review_words.specs.declared.shown.State.{State, TheVariants.New, TheVariants.Merged}
use Rattle.review_chain.specs.Branches.{Branch, parent_standing}
use Rattle.review_chain.specs.Walks.{IsReady, Follows, IsChain, IsWalk, first_of}
use Rattle.review_chain.specs.declared.links.Standing.TheVariants.{InBranch, PatchSet, Nowhere}
use Rattle.review_core_rules.specs.Change.{Change, Setting, is_open, commit, current, of_number, parent}
use Rattle.review_core_rules.specs.Facts.{AreStanding, IsFirstUnsatisfied, is_unsatisfied, unsatisfied_in}
use Rattle.review_machine_rows.proofs.Common.{AllByRecursion, Answer, Done, IsHistory, Link, PatchRow, ShownRequirement, Standing, Submit, Submitted, and_parts, bytes_eq-Decides, chain_ready, link_for, option_map_or, or_cases}
use Rattle.review_machine_rows.proofs.Readings.{IsDoneBy, done_of}
use Rattle.review_machine_rows.specs.Changes.{Reading, Reads, change, joined_in, setting_of, joined, change_count, is_for, some_change, joined_by}
use Rattle.review_machine_rows.specs.Submits.{branch_after, judged_after, is_in_branch, is_merged, is_merged_commit, patch_for, patch_of, sent_or, sent_up_to, standing_of}
use Rattle.review_machine_laws.proofs.Changes.{one_passing}
use Rattle.review_machine_laws.proofs.Joined.{submit_accepted, same_change, contained_joined, merged_joined, state_merged, Gains, gains, joined_distinct, joined_merged, KeepsPatches, base_kept, commit_kept, merged_keeps, parent_kept, submit_keeps, placed}
use Rattle.review_machine_laws.proofs.Linked.{linked, for_branch}
use Rattle.review_machine_laws.specs.Accepted.{IsAccepted, MayJoin}
use Rattle.review_machine_laws.specs.{Joined.HasJoined, Parents.StandsOn, SoundBranches.AreSoundBranches}

-- ==== what is so of each change of an accepted submit

-- ---- requirements

-- where none is named as unsatisfied, none is
none_unsatisfied : (shown : List ShownRequirement) → unsatisfied_in shown ≡ None → AllByRecursion (λ q. is_unsatisfied q.status ≡ false) shown
none_unsatisfied [] none = tt
none_unsatisfied (q ∷ qs) none = by (none_unsatisfied qs) (is_unsatisfied q.status) refl none
  where
    by : (unsatisfied_in qs ≡ None → AllByRecursion (λ x. is_unsatisfied x.status ≡ false) qs) → (b : Bool) → is_unsatisfied q.status ≡ b → cond b (Some q.name) (unsatisfied_in qs) ≡ None →
        AllByRecursion (λ x. is_unsatisfied x.status ≡ false) (q ∷ qs)
    by later true bad e = absurd (cc)
    by later false good e = (good, later e)

-- a change is judged, and no requirement for it is unsatisfied
pub record IsJudged (reading : Reading) (h : List Entry) (n : ℕ) : Type 0 where
  pub of : Change
  pub there : change reading h n ≡ Some of
  pub shown : List ShownRequirement
  pub are_standing : AreStanding (setting_of reading h of.project) of shown
  pub satisfied : All (λ q. is_unsatisfied q.status ≡ false) shown

none_found : (found : Option (List ℕ)) (n : ℕ) (Rest : Type 0) → MatchOption found Rest (λ requirement. ◌≡◌ {A = Option (ℕ × List ℕ)} None (Some (n, requirement))) → (found ≡ None) × Rest
none_found None n Rest rest = (refl, rest)
none_found (Some requirement) n Rest e = absurd (cc)

all_judged : (reading : Reading) (h : List Entry) (chain : List ℕ) → IsFirstUnsatisfied (judged_after reading h) chain None → AllByRecursion (IsJudged reading h) chain
all_judged reading h [] none = tt
all_judged reading h (n ∷ ns) none = by (all_judged reading h ns) (change reading h n) refl none
  where
    by : (IsFirstUnsatisfied (judged_after reading h) ns None → AllByRecursion (IsJudged reading h) ns) → (o : Option Change) → change reading h n ≡ o →
        MatchOption (option_map (λ (c : Change). (setting_of reading h c.project, c)) o) ⊥
        (λ (c : Setting × Change).
        (shown : List ShownRequirement) × AreStanding c.0 c.1 shown × MatchOption (unsatisfied_in shown) (IsFirstUnsatisfied (judged_after reading h) ns None) (λ requirement. ◌≡◌ {A = Option (ℕ × List ℕ)} None (Some (n, requirement)))) →
        AllByRecursion (IsJudged reading h) (n ∷ ns)
    by later None there judged = absurd judged
    by later (Some c) there judged =
        let found = none_found (unsatisfied_in judged.0) n (IsFirstUnsatisfied (judged_after reading h) ns None) judged.2 in (
          record {
            of = c;
            there = there;
            shown = judged.0;
            are_standing = judged.1;
            satisfied = All-from_recursion (λ q. is_unsatisfied q.status ≡ false) judged.0 (none_unsatisfied judged.0 found.0);
          },
          later found.1,
        )

-- ---- open, and not in work in progress

-- a change for a branch is open and not in work in progress
pub record IsOpen (reading : Reading) (h : List Entry) (project branch : List ℕ) (n : ℕ) : Type 0 where
  pub of : Change
  pub there : change reading h n ≡ Some of
  pub for_project : of.project ≡ project
  pub for_branch : of.branch ≡ branch
  pub is_open : of.state ≡ New
  pub is_ready : of.wip ≡ false

state_open : (s : State) → is_open s ≡ true → s ≡ New
state_open New e = refl
state_open _ e = absurd (cc)

ready_open : (reading : Reading) (h : List Entry) (project branch : List ℕ) (n : ℕ) → IsReady (branch_after reading h project branch) n → IsOpen reading h project branch n
ready_open reading h project branch n r =
    let l = linked project branch (change reading h n) r.link r.there in
    record {
      of = l.of;
      there = l.there;
      for_project = l.for_project;
      for_branch = l.for_branch;
      is_open = ap (λ (x : Link). x.state) l.link_is ∙ r.is_open;
      is_ready = ap (λ (x : Link). x.wip) l.link_is ∙ r.is_ready;
    }

all_open : (reading : Reading) (h : List Entry) (m : ℕ) (a : Answer) (s : IsAccepted reading h m a) (ns : List ℕ) → AllByRecursion (λ d. (d ≡ m) ⊎ IsReady (branch_after reading h s.of.project s.of.branch) d) ns →
    AllByRecursion (IsOpen reading h s.of.project s.of.branch) ns
all_open reading h m a s [] each = tt
all_open reading h m a s (n ∷ ns) each = (by each.0, all_open reading h m a s ns each.1)
  where
    by : (n ≡ m) ⊎ IsReady (branch_after reading h s.of.project s.of.branch) n → IsOpen reading h s.of.project s.of.branch n
    by (inl last) = record {
      of = s.of;
      there = ap (change reading h) last ∙ s.there;
      for_project = refl;
      for_branch = refl;
      is_open = state_open s.of.state s.was_open;
      is_ready = s.was_ready;
    }
    by (inr r) = ready_open reading h s.of.project s.of.branch n r

-- ---- both

may_join : (reading : Reading) (h : List Entry) (project branch : List ℕ) (n : ℕ) → IsOpen reading h project branch n → IsJudged reading h n → MayJoin reading h project branch n
may_join reading h project branch n o j =
    let same = same_change reading h n o.of j.of o.there j.there in
    record {
      of = j.of;
      there = j.there;
      for_project = sym (ap (λ (c : Change). c.project) same) ∙ o.for_project;
      for_branch = sym (ap (λ (c : Change). c.branch) same) ∙ o.for_branch;
      is_open = sym (ap (λ (c : Change). c.state) same) ∙ o.is_open;
      is_ready = sym (ap (λ (c : Change). c.wip) same) ∙ o.is_ready;
      shown = j.shown;
      are_standing = j.are_standing;
      satisfied = j.satisfied;
    }

both : (reading : Reading) (h : List Entry) (project branch : List ℕ) (ns : List ℕ) → AllByRecursion (IsOpen reading h project branch) ns → AllByRecursion (IsJudged reading h) ns →
    AllByRecursion (MayJoin reading h project branch) ns
both reading h project branch [] ready judged = tt
both reading h project branch (n ∷ ns) ready judged = (may_join reading h project branch n ready.0 judged.0, both reading h project branch ns ready.1 judged.1)

-- each change of an accepted chain could join
pub chain_may_join : (reading : Reading) (h : List Entry) (m : ℕ) (a : Answer) (s : IsAccepted reading h m a) → All (MayJoin reading h s.of.project s.of.branch) s.chain
chain_may_join reading h m a s =
    All-from_recursion (MayJoin reading h s.of.project s.of.branch) s.chain
    (both reading h s.of.project s.of.branch s.chain
    (all_open reading h m a s s.chain
    (recursion_from_All (λ d. (d ≡ m) ⊎ IsReady (branch_after reading h s.of.project s.of.branch) d) s.chain (chain_ready (branch_after reading h s.of.project s.of.branch) s.chain m s.is_chain)))
    (all_judged reading h s.chain s.satisfied))

-- ---- in a history

-- a submit of a history that was done was accepted
pub entry_accepted : (reading : Reading) (e : Entry) (h : List Entry) (m : ℕ) (a : Answer) → IsHistory (e ∷ h) → Reads reading h → e.command ≡ Submit m → e.reply ≡ Done a → IsAccepted reading h m a
entry_accepted reading e h m a history reads command reply =
    submit_accepted reading h e.identity.caller m a (subst (IsDoneBy reading h e.identity.caller (Submit m)) reply (subst (λ c. IsDoneBy reading h e.identity.caller c e.reply) command (done_of e h history reading reads)))

-- and each change that it tells could join the branch of the change that was submitted
pub entry_may_join : (reading : Reading) (e : Entry) (h : List Entry) (m : ℕ) (a : Answer) (c : Change) → IsHistory (e ∷ h) → Reads reading h → e.command ≡ Submit m → e.reply ≡ Done a → change reading h m ≡ Some c →
    All (MayJoin reading h c.project c.branch) (joined_in (Done a))
entry_may_join reading e h m a c history reads command reply there =
    let s = entry_accepted reading e h m a history reads command reply in
    let same = same_change reading h m s.of c s.there there in
    let chain : s.chain ≡ joined_in (Done a) = sym (ap (λ x. joined_in (Done x)) s.told) in
    subst (λ (x : Change). All (MayJoin reading h x.project x.branch) (joined_in (Done a))) same (subst (All (MayJoin reading h s.of.project s.of.branch)) chain (chain_may_join reading h m a s))

-- ==== the changes that an accepted submit joins had not joined before

-- a change that may join is open, and one that joined is merged
not_both : (reading : Reading) (h : List Entry) (project branch : List ℕ) (n : ℕ) → MayJoin reading h project branch n → HasJoined reading h project branch n → ⊥
not_both reading h project branch n may has =
    let same : Some may.of ≡ Some has.of = sym may.there ∙ has.there in
    let is : may.of ≡ has.of = cc in
    let clash : New ≡ Merged = sym may.is_open ∙ (ap (λ (c : Change). c.state) is ∙ has.merged) in
    absurd (cc)

pub entry_is_new : (reading : Reading) (e : Entry) (h : List Entry) (m : ℕ) (a : Answer) (c : Change) → IsHistory (e ∷ h) → Reads reading h → e.command ≡ Submit m → e.reply ≡ Done a → change reading h m ≡ Some c →
    All (λ n. Contains (joined h c.project c.branch) n → ⊥) (joined_in (Done a))
entry_is_new reading e h m a c history reads command reply there =
    All-weaker (MayJoin reading h c.project c.branch) (λ n. Contains (joined h c.project c.branch) n → ⊥)
    (λ n may before. not_both reading h c.project c.branch n may (contained_joined reading h c.project c.branch n history.3 reads before)) (joined_in (Done a))
    (entry_may_join reading e h m a c history reads command reply there)

-- ==== what it tells of a commit that it is in a branch, or that of a patch set

-- ---- in the branch

-- the commit is the current one of a change that joined the branch
abbrev pub IsJoinedCommit : Reading → List Entry → List ℕ → List ℕ → List ℕ → Type 0
IsJoinedCommit reading h project branch x = (d : ℕ) × Contains (joined h project branch) d × (option_map commit (change reading h d) ≡ Some x)

merged_commit : (reading : Reading) (h : List Entry) (project branch x : List ℕ) → IsHistory h → Reads reading h → (n : ℕ) (c : Change) → change reading h n ≡ Some c → is_merged_commit project branch x c ≡ true →
    IsJoinedCommit reading h project branch x
merged_commit reading h project branch x history reads n c there passes =
    let p = and_parts (is_for project branch c) (is_merged c.state && bytes_eq (commit c) x) passes in
    let q = and_parts (is_merged c.state) (bytes_eq (commit c) x) p.1 in
    let to = for_branch project branch c p.0 in
    let same : commit c ≡ x = (bytes_eq-Decides (commit c) x).0 q.1 in (
      n,
      merged_joined reading h project branch n history reads (record { of = c; there = there; for_project = to.0; for_branch = to.1; merged = state_merged c.state q.0 }),
      ap (option_map commit) there ∙ ap Some same,
    )

-- a commit in a branch is a base, or the current commit of a change that joined it
pub in_branch : (reading : Reading) (h : List Entry) (project branch x : List ℕ) → IsHistory h → Reads reading h → is_in_branch reading h project branch x ≡ true →
    (is_base h project branch x ≡ true) ⊎ IsJoinedCommit reading h project branch x
in_branch reading h project branch x history reads e =
    ⊎_elim (λ base. inl base)
    (λ merged. let r = one_passing reading h (is_merged_commit project branch x) (change_count h) merged in inr (merged_commit reading h project branch x history reads r.0 r.1 r.2 r.3))
    (or_cases (is_base h project branch x) (some_change reading h (is_merged_commit project branch x) (change_count h)) e)

-- ---- by a patch set

never_in_branch : (reading : Reading) (h : List Entry) (project branch x : List ℕ) (k : ℕ) → sent_up_to reading h project branch x k ≡ InBranch → ⊥
never_in_branch reading h project branch x zero e = absurd (let f : Nowhere ≡ InBranch = e in cc)
never_in_branch reading h project branch x (suc k) e = by (never_in_branch reading h project branch x k) (patch_for project branch x (change reading h (suc k))) e
  where
    by : (sent_up_to reading h project branch x k ≡ InBranch → ⊥) → (o : Option ℕ) → sent_or (suc k) o (sent_up_to reading h project branch x k) ≡ InBranch → ⊥
    by later None f = later f
    by later (Some j) f = absurd (let g : PatchSet (suc k) j ≡ InBranch = f in cc)

sent_for : (reading : Reading) (h : List Entry) (project branch x : List ℕ) (k d j : ℕ) → sent_up_to reading h project branch x k ≡ PatchSet d j → patch_for project branch x (change reading h d) ≡ Some j
sent_for reading h project branch x zero d j e = absurd (let f : Nowhere ≡ PatchSet d j = e in cc)
sent_for reading h project branch x (suc k) d j e = by (sent_for reading h project branch x k d j) (patch_for project branch x (change reading h (suc k))) refl e
  where
    by : (sent_up_to reading h project branch x k ≡ PatchSet d j → patch_for project branch x (change reading h d) ≡ Some j) → (o : Option ℕ) → patch_for project branch x (change reading h (suc k)) ≡ o →
        sent_or (suc k) o (sent_up_to reading h project branch x k) ≡ PatchSet d j → patch_for project branch x (change reading h d) ≡ Some j
    by later None none f = later f
    by later (Some i) some f =
        let number : suc k ≡ d = cc in
        let patch : i ≡ j = cc in
        ap (λ n. patch_for project branch x (change reading h n)) (sym number) ∙ (some ∙ ap Some patch)

-- the number of a patch set is its place, and it has the commit
patch_at : (n : ℕ) (ps : List PatchRow) (x : List ℕ) (k : ℕ) → patch_of n ps x ≡ Some k → (j : ℕ) × (p : PatchRow) × (slice_get ps j ≡ Some p) × (k ≡ n + suc j) × (p.commit ≡ x)
patch_at n [] x k e = absurd (cc)
patch_at n (p ∷ ps) x k e = by (patch_at (n + 1) ps x k) (bytes_eq p.commit x) refl e
  where
    by : (patch_of (n + 1) ps x ≡ Some k → (j : ℕ) × (q : PatchRow) × (slice_get ps j ≡ Some q) × (k ≡ (n + 1) + suc j) × (q.commit ≡ x)) → (b : Bool) → bytes_eq p.commit x ≡ b →
        cond b (Some (n + 1)) (patch_of (n + 1) ps x) ≡ Some k → (j : ℕ) × (q : PatchRow) × (slice_get (p ∷ ps) j ≡ Some q) × (k ≡ n + suc j) × (q.commit ≡ x)
    by later true same f = let one : n + 1 ≡ k = cc in (0, p, refl, omega arith, (bytes_eq-Decides p.commit x).0 same)
    by later false other f =
        let r = later f in
        let counts : k ≡ (n + 1) + suc r.0 = r.3 in
        (suc r.0, r.1, r.2, omega arith, r.4)

-- a commit is that of a patch set of a change
pub record IsPatchOf (reading : Reading) (h : List Entry) (x : List ℕ) (d k : ℕ) : Type 0 where
  pub of : Change
  pub there : change reading h d ≡ Some of
  pub place : ℕ
  pub patch : PatchRow
  pub stands : slice_get of.patches place ≡ Some patch
  pub counts : k ≡ suc place
  pub commit_is : patch.commit ≡ x

is_patch : (reading : Reading) (h : List Entry) (project branch x : List ℕ) (d k : ℕ) (o : Option Change) → change reading h d ≡ o → patch_for project branch x o ≡ Some k → IsPatchOf reading h x d k
is_patch reading h project branch x d k None there e = absurd (cc)
is_patch reading h project branch x d k (Some c) there e = by (is_for project branch c) e
  where
    by : (b : Bool) → cond b (patch_of 0 c.patches x) None ≡ Some k → IsPatchOf reading h x d k
    by false f = absurd (cc)
    by true f =
        let r = patch_at 0 c.patches x k f in
        let counts : k ≡ 0 + suc r.0 = r.3 in
        record { of = c; there = there; place = r.0; patch = r.1; stands = r.2; counts = omega arith; commit_is = r.4 }

-- what a commit is to a branch tells whether it is in it, or of which patch set it is
pub standing_in : (reading : Reading) (h : List Entry) (project branch x : List ℕ) → standing_of reading h project branch x ≡ InBranch → is_in_branch reading h project branch x ≡ true
standing_in reading h project branch x e = by (is_in_branch reading h project branch x) refl e
  where
    by : (b : Bool) → is_in_branch reading h project branch x ≡ b → cond b InBranch (sent_up_to reading h project branch x (change_count h)) ≡ InBranch → is_in_branch reading h project branch x ≡ true
    by true in' f = in'
    by false out f = absurd (never_in_branch reading h project branch x (change_count h) f)

pub standing_patch : (reading : Reading) (h : List Entry) (project branch x : List ℕ) (d k : ℕ) → standing_of reading h project branch x ≡ PatchSet d k → IsPatchOf reading h x d k
standing_patch reading h project branch x d k e = by (is_in_branch reading h project branch x) e
  where
    by : (b : Bool) → cond b InBranch (sent_up_to reading h project branch x (change_count h)) ≡ PatchSet d k → IsPatchOf reading h x d k
    by true f = absurd (let g : InBranch ≡ PatchSet d k = f in cc)
    by false f = is_patch reading h project branch x d k (change reading h d) refl (sent_for reading h project branch x (change_count h) d k f)

-- ==== parents join before their children

-- what a commit is to a branch that the current parent of a change is
record ParentIs (reading : Reading) (h : List Entry) (project branch : List ℕ) (n : ℕ) (s : Standing) : Type 0 where
  of : Change
  there : change reading h n ≡ Some of
  parent_is : standing_of reading h project branch (parent of) ≡ s

parent_of : (reading : Reading) (h : List Entry) (project branch : List ℕ) (n : ℕ) (s : Standing) → parent_standing (branch_after reading h project branch) n ≡ Some s → ParentIs reading h project branch n s
parent_of reading h project branch n s is = by (link_for project branch (change reading h n)) refl is
  where
    by : (o : Option Link) → link_for project branch (change reading h n) ≡ o → option_and_then (λ (l : Link). Some (standing_of reading h project branch l.parent)) o ≡ Some s → ParentIs reading h project branch n s
    by None none e = absurd (cc)
    by (Some link) some e =
        let l = linked project branch (change reading h n) link some in
        let stands : standing_of reading h project branch link.parent ≡ s = cc in
        let parent_is : parent l.of ≡ link.parent = ap (λ o. option_map_or (λ (p : PatchRow). p.parent) o []) l.is_current ∙ ap (λ (x : Link). x.parent) l.link_is in
        record { of = l.of; there = l.there; parent_is = ap (standing_of reading h project branch) parent_is ∙ stands }

-- the patch set of the number of the current one has the current commit
current_commit : (c : Change) (place : ℕ) (patch : PatchRow) → slice_get c.patches place ≡ Some patch → suc place ≡ current c → commit c ≡ patch.commit
current_commit c place patch stands last = ap (λ n. option_map_or (λ (p : PatchRow). p.commit) (of_number c.patches n) []) (sym last) ∙ ap (λ o. option_map_or (λ (p : PatchRow). p.commit) o []) stands

-- a change that stands before another has the other's parent as its current commit
follows_commit : (reading : Reading) (h : List Entry) (project branch : List ℕ) (d n : ℕ) (f : Follows (branch_after reading h project branch) d n) (p : ParentIs reading h project branch n (PatchSet d f.patch)) →
    option_map commit (change reading h d) ≡ Some (parent p.of)
follows_commit reading h project branch d n f p =
    let q = standing_patch reading h project branch (parent p.of) d f.patch p.parent_is in
    let l = linked project branch (change reading h d) f.link f.there in
    let number : current q.of ≡ f.link.patch = sym (ap current (same_change reading h d l.of q.of l.there q.there)) ∙ ap (λ (x : Link). x.patch) l.link_is in
    let last : suc q.place ≡ current q.of = sym q.counts ∙ (f.current ∙ sym number) in
    ap (option_map commit) q.there ∙ ap Some (current_commit q.of q.place q.patch q.stands last ∙ q.commit_is)

Contains-later : (x : ℕ) (xs : List ℕ) (d : ℕ) → Contains xs d → Contains (x ∷ xs) d
Contains-later x xs d in' = let within : in'.0 < length xs = in'.1 in (suc in'.0, omega arith, in'.2)

-- a change of a walk is its first, or follows one before it
walk_follows : (b : Branch) (front : List ℕ) (n : ℕ) (back : List ℕ) (c : ℕ) → IsWalk b (front ++ n ∷ back) c → (front ≡ []) ⊎ ((d : ℕ) × Contains front d × Follows b d n)
walk_follows b [] n back c walks = inl refl
walk_follows b (d ∷ []) n back c walks = inr (d, (0, omega arith, refl), walks.0)
walk_follows b (d ∷ e ∷ front) n back c walks =
    ⊎_elim (λ (none : e ∷ front ≡ []). absurd (cc)) (λ before. inr (before.0, Contains-later d (e ∷ front) before.0 before.1, before.2)) (walk_follows b (e ∷ front) n back c walks.1)

-- a change of a chain stands on the branch, or on one that joined it before, in an earlier submit or in the chain
chain_stands : (reading : Reading) (h : List Entry) (project branch : List ℕ) (front : List ℕ) (n : ℕ) (back : List ℕ) (c : ℕ) → IsHistory h → Reads reading h →
    IsChain (branch_after reading h project branch) (front ++ n ∷ back) c → StandsOn reading h project branch (joined h project branch ++ front) n
chain_stands reading h project branch front n back c history reads chain =
    ⊎_elim first (λ before. later before.0 before.1 before.2) (walk_follows (branch_after reading h project branch) front n back c chain.walks)
  where
    first : front ≡ [] → StandsOn reading h project branch (joined h project branch ++ front) n
    first none =
        let begins : first_of (front ++ n ∷ back) ≡ n = ap (λ l. first_of (l ++ n ∷ back)) none in
        let p = parent_of reading h project branch n InBranch (subst (λ x. parent_standing (branch_after reading h project branch) x ≡ Some InBranch) begins chain.based) in
        record {
          of = p.of;
          there = p.there;
          parent_is = ⊎_elim (λ base. inl base) (λ d. inr (d.0, Contains-append_left (joined h project branch) front d.0 d.1, d.2))
              (in_branch reading h project branch (parent p.of) history reads (standing_in reading h project branch (parent p.of) p.parent_is));
        }

    later : (d : ℕ) → Contains front d → Follows (branch_after reading h project branch) d n → StandsOn reading h project branch (joined h project branch ++ front) n
    later d in' f =
        let p = parent_of reading h project branch n (PatchSet d f.patch) f.parent in
        record { of = p.of; there = p.there; parent_is = inr (d, Contains-append_right (joined h project branch) front d in', follows_commit reading h project branch d n f p) }

-- Each change of an accepted submit stands on the branch, or on one that joined it before: in an earlier submit, or before it in this one.
pub entry_stands : (reading : Reading) (e : Entry) (h : List Entry) (m : ℕ) (c : Change) (front : List ℕ) (n : ℕ) (back : List ℕ) → IsHistory (e ∷ h) → Reads reading h → e.command ≡ Submit m →
    e.reply ≡ Done (Submitted (front ++ n ∷ back)) → change reading h m ≡ Some c → StandsOn reading h c.project c.branch (joined h c.project c.branch ++ front) n
entry_stands reading e h m c front n back history reads command reply there =
    let s = entry_accepted reading e h m (Submitted (front ++ n ∷ back)) history reads command reply in
    let chain : s.chain ≡ front ++ n ∷ back = sym (ap (λ x. joined_in (Done x)) s.told) in
    subst (λ (x : Change). StandsOn reading h x.project x.branch (joined h x.project x.branch ++ front) n) (same_change reading h m s.of c s.there there)
    (chain_stands reading h s.of.project s.of.branch front n back m history.3 reads (subst (λ l. IsChain (branch_after reading h s.of.project s.of.branch) l m) chain s.is_chain))

-- ---- in every history

-- two lists in a row are cut at an item of the first
record IsCutFirst (xs front : List ℕ) (n : ℕ) : Type 0 where
  rest : List ℕ
  cut_is : xs ≡ front ++ n ∷ rest

-- or of the second
record IsCutSecond (xs ys front : List ℕ) (n : ℕ) (back : List ℕ) : Type 0 where
  more : List ℕ
  front_is : front ≡ xs ++ more
  cut_is : ys ≡ more ++ n ∷ back

cut : (xs ys front : List ℕ) (n : ℕ) (back : List ℕ) → xs ++ ys ≡ front ++ n ∷ back → IsCutFirst xs front n ⊎ IsCutSecond xs ys front n back
cut [] ys front n back e = inr (record { more = front; front_is = refl; cut_is = e })
cut (x ∷ xs) ys [] n back e = let same : x ≡ n = cc in inl (record { rest = xs; cut_is = λ i. same i ∷ xs })
cut (x ∷ xs) ys (y ∷ front) n back e =
    let same : x ≡ y = cc in
    let rest : xs ++ ys ≡ front ++ n ∷ back = cc in ⊎_elim
    (λ (c : IsCutFirst xs front n). inl (record { rest = c.rest; cut_is = λ i. same i ∷ c.cut_is i }))
    (λ (c : IsCutSecond xs ys front n back). inr (record { more = c.more; front_is = λ i. sym same i ∷ c.front_is i; cut_is = c.cut_is }))
    (cut xs ys front n back rest)

-- what a change stands on it stands on after an entry too, which keeps its patch sets and those of what it stands on
stands_kept : (reading : Reading) (e : Entry) (h : List Entry) (project branch changes : List ℕ) (n : ℕ) → (s : StandsOn reading h project branch changes n) → KeepsPatches s.of (change reading (e ∷ h) n) →
    ((d : ℕ) (c : Change) → Contains changes d → change reading h d ≡ Some c → KeepsPatches c (change reading (e ∷ h) d)) → StandsOn reading (e ∷ h) project branch changes n
stands_kept reading e h project branch changes n s itself others = record { of = itself.of; there = itself.there; parent_is = by s.parent_is }
  where
    same : parent itself.of ≡ parent s.of
    same = parent_kept itself.of s.of itself.patches

    commit_of : (d : ℕ) → Contains changes d → (o : Option Change) → change reading h d ≡ o → option_map commit o ≡ Some (parent s.of) → option_map commit (change reading (e ∷ h) d) ≡ Some (parent s.of)
    commit_of d in' None there f = absurd (cc)
    commit_of d in' (Some c) there f =
        let k = others d c in' there in
        ap (option_map commit) k.there ∙ (ap Some (commit_kept k.of c k.patches) ∙ f)

    by : (is_base h project branch (parent s.of) ≡ true) ⊎ ((d : ℕ) × Contains changes d × (option_map commit (change reading h d) ≡ Some (parent s.of))) →
        (is_base (e ∷ h) project branch (parent itself.of) ≡ true) ⊎ ((d : ℕ) × Contains changes d × (option_map commit (change reading (e ∷ h) d) ≡ Some (parent itself.of)))
    by (inl base) = inl (ap (is_base (e ∷ h) project branch) same ∙ base_kept e h project branch (parent s.of) base)
    by (inr d) = inr (d.0, d.1, commit_of d.0 d.1 (change reading h d.0) refl d.2 ∙ ap Some (sym same))

-- a change that joined keeps its patch sets
joined_keeps : (reading : Reading) (e : Entry) (h : List Entry) (project branch : List ℕ) (n : ℕ) (c : Change) → IsHistory (e ∷ h) → Reads reading h → Contains (joined h project branch) n → change reading h n ≡ Some c →
    KeepsPatches c (change reading (e ∷ h) n)
joined_keeps reading e h project branch n c history reads in' there =
    let j = contained_joined reading h project branch n history.3 reads in' in
    merged_keeps reading e h n c history reads there (ap (λ (x : Change). x.state) (same_change reading h n c j.of there j.there) ∙ j.merged)

Contains-at : (front : List ℕ) (n : ℕ) (back : List ℕ) → Contains (front ++ n ∷ back) n
Contains-at front n back = Contains-append_right front (n ∷ back) n (0, omega arith, refl)

earlier_stands : (reading : Reading) (e : Entry) (h : List Entry) (project branch front : List ℕ) (n : ℕ) (back : List ℕ) → IsHistory (e ∷ h) → Reads reading h → joined h project branch ≡ front ++ n ∷ back →
    StandsOn reading h project branch front n → StandsOn reading (e ∷ h) project branch front n
earlier_stands reading e h project branch front n back history reads is s =
    stands_kept reading e h project branch front n s
    (joined_keeps reading e h project branch n s.of history reads (subst (λ l. Contains l n) (sym is) (Contains-at front n back)) s.there)
    (λ d c in' there. joined_keeps reading e h project branch d c history reads (subst (λ l. Contains l d) (sym is) (Contains-append_left front (n ∷ back) d in')) there)

newest_stands : (reading : Reading) (e : Entry) (h : List Entry) (project branch changes : List ℕ) (front : List ℕ) (n : ℕ) (back more : List ℕ) → IsHistory (e ∷ h) → Reads reading h →
    (changes ≡ []) ⊎ Gains reading h (accepted e) project branch changes → changes ≡ more ++ n ∷ back → front ≡ joined h project branch ++ more → StandsOn reading (e ∷ h) project branch front n
newest_stands reading e h project branch changes front n back more history reads (inl none) is front_is = let in' : Contains [] n = subst (λ l. Contains l n) (sym is ∙ none) (Contains-at more n back) in absurd (let bad : in'.0 < 0 = in'.1 in omega arith)
newest_stands reading e h project branch changes front n back more history reads (inr g) is front_is =
    let s = g.accepted in
    let chain : s.chain ≡ more ++ n ∷ back = sym g.joins ∙ is in
    let branches : branch_after reading h s.of.project s.of.branch ≡ branch_after reading h project branch = λ i. branch_after reading h (g.for_project i) (g.for_branch i) in
    let is_chain = subst (λ b. IsChain b (more ++ n ∷ back) g.submit) branches (subst (λ l. IsChain (branch_after reading h s.of.project s.of.branch) l g.submit) chain s.is_chain) in
    let stands = chain_stands reading h project branch more n back g.submit history.3 reads is_chain in
    subst (λ l. StandsOn reading (e ∷ h) project branch l n) (sym front_is)
    (stands_kept reading e h project branch (joined h project branch ++ more) n stands (submit_keeps reading e h g.submit n stands.of g.asked stands.there) (λ d c in' there. submit_keeps reading e h g.submit d c g.asked there))

-- Each change that joined a branch stands on it, or on one that joined it before.
pub joined_stands : (reading : Reading) (h : List Entry) (project branch front : List ℕ) (n : ℕ) (back : List ℕ) → IsHistory h → Reads reading h → joined h project branch ≡ front ++ n ∷ back → StandsOn reading h project branch front n
joined_stands reading [] project branch front n back history reads is = let in' : Contains [] n = subst (λ l. Contains l n) (sym is) (Contains-at front n back) in absurd (let bad : in'.0 < 0 = in'.1 in omega arith)
joined_stands reading (e ∷ h) project branch front n back history reads is = ⊎_elim
    (λ (c : IsCutFirst (joined h project branch) front n).
    earlier_stands reading e h project branch front n c.rest history reads.1 c.cut_is (joined_stands reading h project branch front n c.rest history.3 reads.1 c.cut_is))
    (λ (c : IsCutSecond (joined h project branch) (joined_by h (accepted e) e.reply project branch) front n back).
    newest_stands reading e h project branch (joined_by h (accepted e) e.reply project branch) front n back c.more history reads.1
    (gains reading h e.identity.caller e.command e.reply project branch (done_of e h history reading reads.1)) c.cut_is c.front_is)
    (cut (joined h project branch) (joined_by h (accepted e) e.reply project branch) front n back is)

-- ==== the branches of a history are sound

pub history_from : (later earlier : List Entry) → IsHistory (later ++ earlier) → IsHistory earlier
history_from [] earlier history = history
history_from (e ∷ later) earlier history = history_from later earlier history.3

reads_from : (reading : Reading) (later earlier : List Entry) → Reads reading (later ++ earlier) → Reads reading earlier
reads_from reading [] earlier reads = reads
reads_from reading (e ∷ later) earlier reads = reads_from reading later earlier reads.1

pub sound_branches : (h : List Entry) → IsHistory h → AreSoundBranches h
sound_branches h history = record {
  branches = λ reading reads project branch. record {
    once = joined_distinct reading h project branch history reads;
    merged = joined_merged reading h project branch history reads;
    placed = λ n. placed reading h project branch n history reads;
    stands = λ front n back is. joined_stands reading h project branch front n back history reads is;
  };
  ready = λ reading reads later e earlier n a c is submit done there.
      entry_may_join reading e earlier n a c (history_from later (e ∷ earlier) (subst IsHistory is history)) (reads_from reading later (e ∷ earlier) (subst (Reads reading) is reads)).1 submit done there;
}
