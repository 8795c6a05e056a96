-- What the rows of changes tell.
use Rattle.std.proofs.Common.{◌≡◌, ℕ, ◌+◌, ◌==◌, List, [], ◌∷◌, length, Option, Some, None, Bool, true, false, cond, refl, sym, ap, subst, ◌∙◌, eqb-true, option_map, ℤ, suc, not, ⊎_elim, slice_get, ◌-◌, ◌<◌, ◌≤◌, arith, AllPairs, map, slice_index_or}
use Rattle.std.proofs.lemmas.{Bool.cases_Bool, Bool.cases_lt, List.Elements.All-get_or}
use Rattle.std.proofs.lemmas.Option.{get_or_from_slice_get, slice_get-get_or, slice_get-map, slice_get_within}
use Rattle.review_words.specs.History.{Entry, accepted, if_done}
use Rattle.review_words.specs.declared.command.Command.TheVariants.{CreateChange, OnChange}
use Rattle.review_core_rules.proofs.Stays.{zero_of, begins, stays, within_parts}
use Rattle.review_core_rules.specs.Change.{Change, after, begun, joined_at, commit, current, of_number}
use Rattle.review_core_rules.specs.Parts.{Part, TheHeader, PatchOf, VoteOf, RoleOf, CommentOf, AttentionOf, PartRow, AHeader, APatch, AVote, ARole, AComment, AnAttentionEntry, header_of, part_row}
use Rattle.review_core_rules.specs.declared.rows.AttentionEntry.{AttentionEntry}
use Rattle.review_machine_rows.proofs.Common.{APart, AllByRecursion, Answer, ChangeCommand, Command, CommentRow, Done, Header, JoinedChange, NewChange, PatchRow, Reply, Role, fact, is_merged, most_patches, option_map_or, voted}
use Rattle.review_machine_rows.proofs.{Joins.unsent_from, Readings.IsDoneBy, Readings.done_of}
use Rattle.review_machine_rows.specs.Answer.{IsAnswerBy, IsHistory, request_checks}
use Rattle.review_machine_rows.specs.Changes.{Reading, Reads, change, change_by, change_count, setting_of, submitted, joined, place_in}
use Rattle.review_machine_rows.specs.Desks.{facts_of}
use Rattle.review_machine_rows.specs.Known.{part_of, HaveJoined, IsAtPlace, IsBefore, IsCurrent, IsJoinedAt, IsLastJoined}
use Rattle.review_machine_rows.specs.{Questions.joined_change, declared.rows.BranchKey.BranchKey}
use Rattle.review_machine_laws.proofs.Changes.{are_sound, of_each}
use Rattle.review_machine_laws.proofs.Joined.{has_place, joined_distinct, joined_placed, state_merged, merged_stays}
use Rattle.review_machine_laws.proofs.Places.{none_past, last_number, of_number_there, same_order, contained_get, get_placed, placed_get}

-- ==== what holds of every change of a history

-- a change that is not merged is at place 0
abbrev IsUnplaced : Change → Type 0
IsUnplaced c = is_merged c.state ≡ false → c.place ≡ 0

pub unplaced : (reading : Reading) (h : List Entry) (n : ℕ) (c : Change) → IsHistory h → Reads reading h → change reading h n ≡ Some c → is_merged c.state ≡ false → c.place ≡ 0
unplaced reading h n c history reads is =
    of_each IsUnplaced reading
    (record {
      begins = λ new caller request free. refl;
      joins = λ place request x holds free. absurd (let e : true ≡ false = free in cc);
      stays = λ k caller command x pass holds free. holds (sym (merged_stays reading k caller command x pass) ∙ free);
    })
    h n c history reads is

-- ==== the rows of a change tell the change

unmap : {X Y : Type 0} (f : X → Y) → ((x y : X) → f x ≡ f y → x ≡ y) → (a b : Option X) → option_map f a ≡ option_map f b → a ≡ b
unmap f tells None None e = refl
unmap f tells None (Some y) e = absurd (cc)
unmap f tells (Some x) None e = absurd (cc)
unmap f tells (Some x) (Some y) e = let same : f x ≡ f y = cc in ap Some (tells x y same)

-- lists with the same at each number are the same
same_lists : {X : Type 0} (xs ys : List X) → ((n : ℕ) → slice_get xs n ≡ slice_get ys n) → xs ≡ ys
same_lists [] [] same = refl
same_lists [] (y ∷ ys) same = let e : None ≡ Some y = same 0 in absurd (cc)
same_lists (x ∷ xs) [] same = let e : Some x ≡ None = same 0 in absurd (cc)
same_lists (x ∷ xs) (y ∷ ys) same =
    let e : Some x ≡ Some y = same 0 in
    let first : x ≡ y = cc in
    let rest = same_lists xs ys (λ n. same (suc n)) in
    λ i. first i ∷ rest i

same_votes : (v w : ℤ) → cond (voted v) (Some (AVote v)) None ≡ cond (voted w) (Some (AVote w)) None → v ≡ w
same_votes v w e = ⊎_elim
    (λ (a : voted v ≡ true). ⊎_elim
    (λ (b : voted w ≡ true).
    let is : Some (AVote v) ≡ Some (AVote w) = sym (ap (λ t. cond t (Some (AVote v)) None) a) ∙ (e ∙ ap (λ t. cond t (Some (AVote w)) None) b) in
    let same : v ≡ w = cc in same)
    (λ (b : voted w ≡ false).
    let is : Some (AVote v) ≡ None = sym (ap (λ t. cond t (Some (AVote v)) None) a) ∙ (e ∙ ap (λ t. cond t (Some (AVote w)) None) b) in absurd (cc))
    (cases_Bool (voted w)))
    (λ (a : voted v ≡ false). ⊎_elim
    (λ (b : voted w ≡ true).
    let is : None ≡ Some (AVote w) = sym (ap (λ t. cond t (Some (AVote v)) None) a) ∙ (e ∙ ap (λ t. cond t (Some (AVote w)) None) b) in absurd (cc))
    (λ (b : voted w ≡ false). zero_of v a ∙ sym (zero_of w b))
    (cases_Bool (voted w)))
    (cases_Bool (voted v))

tells_patch : (x y : PatchRow) → APatch x ≡ APatch y → x ≡ y
tells_patch x y e = cc

tells_role : (x y : Role) → ARole x ≡ ARole y → x ≡ y
tells_role x y e = cc

tells_comment : (x y : CommentRow) → AComment x ≡ AComment y → x ≡ y
tells_comment x y e = cc

tells_attention_entry : (x y : AttentionEntry) → AnAttentionEntry x ≡ AnAttentionEntry y → x ≡ y
tells_attention_entry x y e = cc

tells_part : (x y : PartRow) → APart x ≡ APart y → x ≡ y
tells_part x y e = cc

same_changes : (c d : Change) → ((part : Part) → part_row c part ≡ part_row d part) → c ≡ d
same_changes c d same =
    let e : Some (AHeader (header_of c)) ≡ Some (AHeader (header_of d)) = same TheHeader in
    let header : header_of c ≡ header_of d = cc in
    let patches : c.patches ≡ d.patches = same_lists c.patches d.patches (λ n. unmap APatch tells_patch (slice_get c.patches n) (slice_get d.patches n) (same (PatchOf (suc n)))) in
    let comments : c.comments ≡ d.comments = same_lists c.comments d.comments (λ n. unmap AComment tells_comment (slice_get c.comments n) (slice_get d.comments n) (same (CommentOf (suc n)))) in
    λ i. record {
      project = (header i).project;
      branch = (header i).branch;
      subject = (header i).subject;
      owner = (header i).owner;
      state = (header i).state;
      wip = (header i).wip;
      place = (header i).place;
      updated = (header i).updated;
      patches = patches i;
      vote = λ n l a. same_votes (c.vote n l a) (d.vote n l a) (same (VoteOf n l a)) i;
      role = λ u. unmap ARole tells_role (c.role u) (d.role u) (same (RoleOf u)) i;
      comments = comments i;
      attention = λ u. unmap AnAttentionEntry tells_attention_entry (c.attention u) (d.attention u) (same (AttentionOf u)) i;
    }

same_parts : (a b : Option Change) → ((part : Part) → part_of a part ≡ part_of b part) → a ≡ b
same_parts None None same = refl
same_parts None (Some d) same = let e : None ≡ Some (AHeader (header_of d)) = same TheHeader in absurd (cc)
same_parts (Some c) None same = let e : Some (AHeader (header_of c)) ≡ None = same TheHeader in absurd (cc)
same_parts (Some c) (Some d) same = ap Some (same_changes c d same)

-- where the rows are those of a change, it is that change
pub rows_tell : (a b : Option Change) → ((part : Part) → option_map APart (part_of a part) ≡ option_map APart (part_of b part)) → a ≡ b
rows_tell a b same = same_parts a b (λ part. unmap APart tells_part (part_of a part) (part_of b part) (same part))

-- ==== what the rows of changes tell of those that joined a branch

-- ---- places

-- the header that stands for a change is its own
pub header_from : (o : Option Change) (header : Header) → option_map APart (part_of o TheHeader) ≡ Some (APart (AHeader header)) → (c : Change) × (o ≡ Some c) × (header_of c ≡ header)
header_from None header e = absurd (cc)
header_from (Some c) header e = let same : header_of c ≡ header = cc in (c, refl, same)

-- a place from 1 that rows tell is the place among those that joined
pub row_placed : (reading : Reading) (h : List Entry) (key : BranchKey) (place n : ℕ) → IsHistory h → Reads reading h → IsAtPlace (fact reading h) key place n → 0 < place →
    place_in (joined h key.project key.branch) n ≡ Some place
row_placed reading h key place n history reads a some =
    let head = header_from (change reading h n) a.header a.stands in
    let at : head.0.place ≡ place = ap (λ (x : Header). x.place) head.2 ∙ a.placed in
    by head.0 head.1 (ap (λ (x : Header). x.project) head.2 ∙ a.project) (ap (λ (x : Header). x.branch) head.2 ∙ a.branch) at (is_merged head.0.state) refl
  where
    by : (c : Change) → change reading h n ≡ Some c → c.project ≡ key.project → c.branch ≡ key.branch → c.place ≡ place → (b : Bool) → is_merged c.state ≡ b → place_in (joined h key.project key.branch) n ≡ Some place
    by c there project branch at true merged =
        has_place reading h key.project key.branch n history reads (record { of = c; there = there; for_project = project; for_branch = branch; merged = state_merged c.state merged }) ∙ ap Some at
    by c there project branch at false free = let zero_place : c.place ≡ 0 = unplaced reading h n c history reads there free in absurd (omega arith)

-- and the other way round
pub placed_row : (reading : Reading) (h : List Entry) (key : BranchKey) (place n : ℕ) → IsHistory h → Reads reading h → place_in (joined h key.project key.branch) n ≡ Some place → IsAtPlace (fact reading h) key place n
placed_row reading h key place n history reads is =
    let p = joined_placed reading h key.project key.branch n place history reads is in
    let j = p.has_joined in
    record { header = header_of j.of; stands = ap (λ o. option_map APart (part_of o TheHeader)) j.there; project = j.for_project; branch = j.for_branch; placed = p.place_is }

-- the last place in a branch is how many joined it
pub last_joined_is : (reading : Reading) (h : List Entry) (key : BranchKey) (last : ℕ) → IsHistory h → Reads reading h → IsLastJoined (fact reading h) key last → last ≡ length (joined h key.project key.branch)
last_joined_is reading h key last history reads l =
    let reached : length (joined h key.project key.branch) ≤ last =
    ⊎_elim (λ (lt : last < length (joined h key.project key.branch)). absurd (not_above lt)) (λ (ge : length (joined h key.project key.branch) ≤ last). ge) (cases_lt last (length (joined h key.project key.branch))) in
    let within : last ≤ length (joined h key.project key.branch) = ⊎_elim (λ (none : last ≡ 0). omega arith) (λ some. not_below some.0 some.1) l.there in
    omega arith
  where
    not_above : last < length (joined h key.project key.branch) → ⊥
    not_above lt =
        let xs = joined h key.project key.branch in
        let at = slice_get-get_or xs (length xs - 1) 0 (omega arith) in
        let place = get_placed xs (length xs - 1) (slice_index_or xs (length xs - 1) 0) (joined_distinct reading h key.project key.branch history reads) at in
        l.above ((length xs - 1) + 1) (slice_index_or xs (length xs - 1) 0) (omega arith) (placed_row reading h key ((length xs - 1) + 1) (slice_index_or xs (length xs - 1) 0) history reads place)

    not_below : (n : ℕ) → IsAtPlace (fact reading h) key last n → last ≤ length (joined h key.project key.branch)
    not_below n at = ⊎_elim
        (λ (some : 0 < last).
        let k = placed_get (joined h key.project key.branch) n last (row_placed reading h key last n history reads at some) in
        let within : k.0 < length (joined h key.project key.branch) = slice_get_within (joined h key.project key.branch) k.0 n k.1 in
        let is : last ≡ k.0 + 1 = k.2 in
        omega arith)
        (λ (none : last ≤ 0). omega arith)
        (cases_lt 0 last)

-- ---- current commits

pub sent_from : (o : Option PatchRow) (p : PatchRow) → option_map APart (option_map APatch o) ≡ Some (APart (APatch p)) → o ≡ Some p
sent_from None p e = absurd (cc)
sent_from (Some x) p e = let same : x ≡ p = cc in ap Some same

-- the patch set that rows tell as current is the change's current one
current_is : (reading : Reading) (h : List Entry) (n : ℕ) (c : Change) (p : PatchRow) → change reading h n ≡ Some c → IsCurrent (fact reading h) n p → of_number c.patches (length c.patches) ≡ Some p
current_is reading h n c p there is =
    last_number c.patches is.number p
    (sent_from (of_number c.patches is.number) p (ap (λ o. option_map APart (part_of o (PatchOf is.number))) (sym there) ∙ is.sent))
    (λ m later. unsent_from (of_number c.patches m) (ap (λ o. option_map APart (part_of o (PatchOf m))) (sym there) ∙ is.later m later))

is_current : (reading : Reading) (h : List Entry) (n : ℕ) (c : Change) (p : PatchRow) → change reading h n ≡ Some c → of_number c.patches (length c.patches) ≡ Some p → IsCurrent (fact reading h) n p
is_current reading h n c p there is = record {
  number = length c.patches;
  sent = ap (λ o. option_map APart (part_of o (PatchOf (length c.patches)))) there ∙ ap (λ o. option_map APart (option_map APatch o)) is;
  later = λ m past. ap (λ o. option_map APart (part_of o (PatchOf m))) there ∙ ap (λ o. option_map APart (option_map APatch o)) (none_past c.patches m past);
}

-- the commit of a joined change is that of its current patch set
commit_is : (reading : Reading) (h : List Entry) (n : ℕ) (c : Change) (p : PatchRow) → change reading h n ≡ Some c → of_number c.patches (length c.patches) ≡ Some p → option_map_or commit (change reading h n) [] ≡ p.commit
commit_is reading h n c p there is = ap (λ o. option_map_or commit o []) there ∙ ap (λ o. option_map_or (λ (x : PatchRow). x.commit) o []) is

-- ---- the changes that joined

-- a change that rows tell as joined at a place is at that place, with its current commit
pub row_joined : (reading : Reading) (h : List Entry) (key : BranchKey) (place : ℕ) (j : JoinedChange) → IsHistory h → Reads reading h → IsJoinedAt (fact reading h) key place j →
    (place_in (joined h key.project key.branch) j.change ≡ Some place) × (joined_change reading h j.change ≡ j)
row_joined reading h key place j history reads a =
    let at = row_placed reading h key place j.change history reads a.at a.from_one in
    let has = (joined_placed reading h key.project key.branch j.change place history reads at).has_joined in
    let sent = commit_is reading h j.change has.of a.patch has.there (current_is reading h j.change has.of a.patch has.there a.current) ∙ a.commit in
    (at, λ i. record { change = j.change; commit = sent i })

-- and the other way round
pub joined_row : (reading : Reading) (h : List Entry) (key : BranchKey) (place n : ℕ) → IsHistory h → Reads reading h → place_in (joined h key.project key.branch) n ≡ Some place →
    IsJoinedAt (fact reading h) key place (joined_change reading h n)
joined_row reading h key place n history reads is =
    let has = (joined_placed reading h key.project key.branch n place history reads is).has_joined in
    let sound = are_sound begins stays reading h n has.of history reads has.there in
    let some : 1 ≤ length has.of.patches = (within_parts most_patches (current has.of) sound.patches).0 in
    let patch = of_number_there has.of.patches (length has.of.patches) some (omega arith) in
    let k = placed_get (joined h key.project key.branch) n place is in
    let counts : place ≡ k.0 + 1 = k.2 in
    record {
      from_one = omega arith;
      at = placed_row reading h key place n history reads is;
      patch = patch.0;
      current = is_current reading h n has.of patch.0 has.there patch.1;
      commit = sym (commit_is reading h n has.of patch.0 has.there patch.1);
    }

mapped_get : {X Y : Type 0} (f : X → Y) (xs : List X) (k : ℕ) (y : Y) → slice_get (map f xs) k ≡ Some y → (x : X) × (slice_get xs k ≡ Some x) × (f x ≡ y)
mapped_get {X} f xs k y is = by (slice_get xs k) refl (sym (slice_get-map f xs k) ∙ is)
  where
    by : (o : Option X) → slice_get xs k ≡ o → option_map f o ≡ Some y → (x : X) × (slice_get xs k ≡ Some x) × (f x ≡ y)
    by None at e = absurd (cc)
    by (Some x) at e = let same : f x ≡ y = cc in (x, at, same)

get_mapped : {X Y : Type 0} (f : X → Y) (xs : List X) (k : ℕ) (x : X) → slice_get xs k ≡ Some x → slice_get (map f xs) k ≡ Some (f x)
get_mapped f xs k x is = slice_get-map f xs k ∙ ap (option_map f) is

-- the pair at two places of a list whose pairs are all related
pair_get : {X : Type 0} (R : X → X → Type 0) (xs : List X) (k l : ℕ) (x z : X) → AllPairs R xs → k < l → slice_get xs k ≡ Some x → slice_get xs l ≡ Some z → R x z
pair_get R xs k l x z all lt one two =
    subst (λ a. R a z) (get_or_from_slice_get xs k x x one) (subst (R (slice_index_or xs k x)) (get_or_from_slice_get xs l z x two) (all k l x lt (slice_get_within xs l z two)))

-- The changes that rows tell to have joined a branch are those that joined it, in their order, with their current commits.
pub joined_rows : (reading : Reading) (h : List Entry) (key : BranchKey) (js : List JoinedChange) → IsHistory h → Reads reading h → HaveJoined (fact reading h) key js →
    js ≡ map (joined_change reading h) (joined h key.project key.branch)
joined_rows reading h key js history reads have = same_order (map (joined_change reading h) xs) js (record { each = each; all = all; once = once; ordered = ordered })
  where
    xs : List ℕ
    xs = joined h key.project key.branch

    -- a change that stands in the list has its place there
    place : (k : ℕ) (j : JoinedChange) → slice_get (map (joined_change reading h) xs) k ≡ Some j → place_in xs j.change ≡ Some (k + 1)
    place k j is =
        let n = mapped_get (joined_change reading h) xs k j is in
        let same : n.0 ≡ j.change = ap (λ (x : JoinedChange). x.change) n.2 in
        ap (place_in xs) (sym same) ∙ get_placed xs k n.0 (joined_distinct reading h key.project key.branch history reads) n.1

    each : (k : ℕ) (j : JoinedChange) → slice_get js k ≡ Some j → (p : ℕ) × (slice_get (map (joined_change reading h) xs) p ≡ Some j)
    each k j is =
        let one = subst (λ x. (at : ℕ) × IsJoinedAt (fact reading h) key at x) (get_or_from_slice_get js k j j is) (All-get_or (λ x. (at : ℕ) × IsJoinedAt (fact reading h) key at x) js k j (slice_get_within js k j is) have.each) in
        let r = row_joined reading h key one.0 j history reads one.1 in
        let p = placed_get xs j.change one.0 r.0 in
        (p.0, get_mapped (joined_change reading h) xs p.0 j.change p.1 ∙ ap Some r.1)

    all : (p : ℕ) (j : JoinedChange) → slice_get (map (joined_change reading h) xs) p ≡ Some j → (k : ℕ) × (slice_get js k ≡ Some j)
    all p j is =
        let n = mapped_get (joined_change reading h) xs p j is in
        let same : n.0 ≡ j.change = ap (λ (x : JoinedChange). x.change) n.2 in
        let row = joined_row reading h key (p + 1) n.0 history reads (ap (place_in xs) same ∙ place p j is) in
        contained_get js j (have.all (p + 1) j (subst (IsJoinedAt (fact reading h) key (p + 1)) n.2 row))

    once : (p q : ℕ) (j : JoinedChange) → slice_get (map (joined_change reading h) xs) p ≡ Some j → slice_get (map (joined_change reading h) xs) q ≡ Some j → p ≡ q
    once p q j here there =
        let e : Some (p + 1) ≡ Some (q + 1) = sym (place p j here) ∙ place q j there in
        let same : p + 1 ≡ q + 1 = cc in
        omega arith

    ordered : (k l p q : ℕ) (a b : JoinedChange) → k < l → slice_get js k ≡ Some a → slice_get js l ≡ Some b → slice_get (map (joined_change reading h) xs) p ≡ Some a →
        slice_get (map (joined_change reading h) xs) q ≡ Some b → p < q
    ordered k l p q a b lt one two here there =
        let before = pair_get (IsBefore (fact reading h) key) js k l a b have.ordered lt one two in ⊎_elim
        (λ (less : p + 1 < q + 1). omega arith)
        (λ (even : (p + 1 ≡ q + 1) × (a.change < b.change)).
        let place_same : p + 1 ≡ q + 1 = even.0 in
        let same : p ≡ q = omega arith in
        let e : Some a ≡ Some b = sym here ∙ (ap (slice_get (map (joined_change reading h) xs)) same ∙ there) in
        let alike : a ≡ b = cc in
        let number : a.change ≡ b.change = ap (λ (x : JoinedChange). x.change) alike in
        let below : a.change < b.change = even.1 in
        absurd (omega arith))
        (before (p + 1) (q + 1) (placed_row reading h key (p + 1) a.change history reads (place p a here)) (placed_row reading h key (q + 1) b.change history reads (place q b there)))
