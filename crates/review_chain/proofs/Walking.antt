-- Walks from a change to the base, and how they end.
use Rattle.std.proofs.Common.{◌≡◌, ℕ, ◌<◌, ◌≤◌, Bool, true, false, not, List, Option, Some, None, inl, inr, refl, sym, ap, ◌∙◌, subst, arith, eqb-true, eq-eqb, if◌then◌else◌, ◌==◌, option_and_then, option_map, ◌≢◌, zero, suc, ◌+◌, [], ◌∷◌, ◌++◌, length, ◌⊎◌, append_assoc, length-append, ⊎_elim, rules, All}
use Rattle.std.proofs.lemmas.{Bool.false≢true, Bool.cases_Bool, Bool.Decides.nat_tests, List.Elements.All-cons}
use Rattle.{std.specs.List.AllByRecursion, std.specs.List.IsDistinct, review_words.specs.declared.shown.State.State}
use Rattle.review_words.specs.declared.shown.State.TheVariants.{New, Merged as MergedState, Abandoned as AbandonedState}
use Rattle.review_chain.specs.Branches.{Branch, parent_standing}
use Rattle.review_chain.specs.Parts.{Want, TheChange, TheCommit, Lacks, NeedsChange, IsWanted, IsDecided}
use Rattle.review_chain.specs.Places.{places, places_from}
use Rattle.review_chain.specs.Steps.{Before, TheBase, Change, Bad, Wants, before, before_link, before_parent, before_known, before_change, before_fault, IsFault}
use Rattle.review_chain.specs.Walks.{Follows, is_abandoned, is_merged, patch_set_fault, link_fault, most_changes, IsWalk, first_of, IsChain, IsBadLink, IsReady}
use Rattle.review_chain.specs.declared.links.{Link.Link, Standing.Standing}
use Rattle.review_chain.specs.declared.links.Standing.TheVariants.{InBranch, PatchSet, Nowhere}
use Rattle.review_chain.specs.declared.walks.ChainFault.{ChainFault}
use Rattle.review_chain.specs.declared.walks.ChainFault.TheVariants.{TooLong, Outdated, Abandoned, Wip, Broken, Memory, Unknown}

-- ==== what stands before a change, by cases

-- what it says of a walk of n changes from c that this stands before it
abbrev pub Means : Branch → ℕ → ℕ → Before → Type 0
Means b n c TheBase = parent_standing b c ≡ Some InBranch
Means b n c (Change d) = ((n == most_changes) ≡ false) × Follows b d c
Means b n c (Bad fault) = (s : Standing) × (parent_standing b c ≡ Some s) × (link_fault b n s ≡ Some fault)
Means b n c (Wants want) = n ≤ most_changes → Lacks b n c want

-- ---- from the function to its meaning

below_full : (n : ℕ) → n ≤ 100 → (n == 100) ≡ false → n < 100
below_full n short e = grind (arith, nat_tests)

fine_parts : (same wip : Bool) (s : State) → (if not same then Some Outdated else if is_abandoned s then Some Abandoned else if wip then Some Wip else if is_merged s then Some Broken else None) ≡ None → (same ≡ true) × (s ≡ New) × (wip ≡ false)
fine_parts true false New e = (refl, refl, refl)
fine_parts true false MergedState e = absurd (let f : Some Broken ≡ None = e in cc)
fine_parts true wip AbandonedState e = absurd (let f : Some Abandoned ≡ None = e in cc)
fine_parts false wip s e = absurd (let f : Some Outdated ≡ None = e in cc)
fine_parts true true _ e = absurd (let f : Some Wip ≡ None = e in cc)

by_fault : (b : Branch) (n c d k : ℕ) (l : Link) (fault : Option ChainFault) → (n == most_changes) ≡ false → parent_standing b c ≡ Some (PatchSet d k) → b.link d ≡ Some l → patch_set_fault k l ≡ fault → Means b n c (before_fault d fault)
by_fault b n c d k l (Some fault) full p there e = (PatchSet d k, p, rw (full, there) e)
by_fault b n c d k l None full p there e =
    let parts = fine_parts (k == l.patch) l.wip l.state e in
    (full, record { patch = k; parent = p; link = l; there = there; current = eqb-true k l.patch parts.0; is_open = parts.1; is_ready = parts.2 })

by_change : (b : Branch) (n c d k : ℕ) (o : Option Link) → (n == most_changes) ≡ false → parent_standing b c ≡ Some (PatchSet d k) → b.link d ≡ o → Means b n c (before_change d k o)
by_change b n c d k None full p there = λ short. (there, inr (below_full n short full, k, p))
by_change b n c d k (Some l) full p there = by_fault b n c d k l (patch_set_fault k l) full p there refl

by_full : (b : Branch) (n c d k : ℕ) (full : Bool) → (n == most_changes) ≡ full → parent_standing b c ≡ Some (PatchSet d k) → Means b n c (if full then Bad TooLong else before_change d k (b.link d))
by_full b n c d k true e p = (PatchSet d k, p, rw e refl)
by_full b n c d k false e p = by_change b n c d k (b.link d) e p refl

by_known : (b : Branch) (n c : ℕ) (s : Standing) → parent_standing b c ≡ Some s → Means b n c (before_known b n s)
by_known b n c InBranch p = p
by_known b n c Nowhere p = (Nowhere, p, refl)
by_known b n c (PatchSet d k) p = by_full b n c d k (n == most_changes) refl p

by_parent : (b : Branch) (n c : ℕ) (l : Link) (o : Option Standing) → b.link c ≡ Some l → b.standing l.parent ≡ o → Means b n c (before_parent b n l.parent o)
by_parent b n c l None there e = λ short. (e, rw there refl)
by_parent b n c l (Some s) there e = by_known b n c s (rw there e)

by_link : (b : Branch) (n c : ℕ) (o : Option Link) → b.link c ≡ o → Means b n c (before_link b n c o)
by_link b n c None e = λ short. (e, inl refl)
by_link b n c (Some l) e = by_parent b n c l (b.standing l.parent) e refl

pub meaning : (b : Branch) (n c : ℕ) (v : Before) → before b n c ≡ v → Means b n c v
meaning b n c v e = subst (Means b n c) e (by_link b n c (b.link c) refl)

-- ---- from the meaning to the function

-- the link of a change whose parent is known to be such a commit
link_of : (b : Branch) (s : Standing) (o : Option Link) → option_and_then (λ l. b.standing l.parent) o ≡ Some s → (l : Link) × (o ≡ Some l) × (b.standing l.parent ≡ Some s)
link_of b s None e = absurd (let f : None ≡ Some s = e in cc)
link_of b s (Some l) e = (l, refl, e)

pub before_by_parent : (b : Branch) (n c : ℕ) (s : Standing) → parent_standing b c ≡ Some s → before b n c ≡ before_known b n s
before_by_parent b n c s p =
    let l = link_of b s (b.link c) p in
    ap (before_link b n c) l.1 ∙ ap (before_parent b n l.0.parent) l.2

pub follows_stands : (b : Branch) (n d c : ℕ) → (n == most_changes) ≡ false → Follows b d c → before b n c ≡ Change d
follows_stands b n d c full f =
    before_by_parent b n c (PatchSet d f.patch) f.parent
    ∙ (ap (λ t. if t then Bad TooLong else before_change d f.patch (b.link d)) full
    ∙ (ap (before_change d f.patch) f.there ∙ ap (before_fault d) fine))
  where
    fine_of : (same wip : Bool) (s : State) → same ≡ true → s ≡ New → wip ≡ false → (if not same then Some Outdated else if is_abandoned s then Some Abandoned else if wip then Some Wip else if is_merged s then Some Broken else None) ≡ None
    fine_of same wip s e o r = rw (e, o, r) refl

    fine : patch_set_fault f.patch f.link ≡ None
    fine = fine_of (f.patch == f.link.patch) f.link.wip f.link.state (eq-eqb f.patch f.link.patch f.current) f.is_open f.is_ready

parent_of : (b : Branch) (x : List ℕ) (o : Option Link) → option_map (λ l. l.parent) o ≡ Some x → (l : Link) × (o ≡ Some l) × (l.parent ≡ x)
parent_of b x None e = absurd (let f : None ≡ Some x = e in cc)
parent_of b x (Some l) e = (l, refl, let f : Some l.parent ≡ Some x = e in cc)

pub lacks_stands : (b : Branch) (n c : ℕ) (want : Want) → Lacks b n c want → before b n c ≡ Wants want
lacks_stands b n c (TheCommit x) h =
    let l = parent_of b x (b.link c) h.1 in
    ap (before_link b n c) l.1 ∙ (ap (λ p. before_parent b n p (b.standing p)) l.2 ∙ ap (before_parent b n x) h.0)
lacks_stands b n c (TheChange d) h = by_need h.1
  where
    by_need : NeedsChange b n c d → before b n c ≡ Wants (TheChange d)
    by_need (inl same) = ap (before_link b n c) (ap b.link (sym same) ∙ h.0) ∙ ap (λ (x : ℕ). Wants (TheChange x)) (sym same)
    by_need (inr (more, k, p)) =
        before_by_parent b n c (PatchSet d k) p
        ∙ (ap (λ t. if t then Bad TooLong else before_change d k (b.link d)) (let f : (n == 100) ≡ false = grind (arith, nat_tests) in f)
        ∙ ap (before_change d k) h.0)

bad_known : (b : Branch) (n : ℕ) (s : Standing) (fault : ChainFault) → link_fault b n s ≡ Some fault → before_known b n s ≡ Bad fault
bad_known b n InBranch fault e = absurd (let f : None ≡ Some fault = e in cc)
bad_known b n Nowhere fault e = let f : Some Broken ≡ Some fault = e in cc
bad_known b n (PatchSet d k) fault e = by_tests (n == most_changes) (b.link d) e
  where
    by_patch : (o : Option ChainFault) → o ≡ Some fault → before_fault d o ≡ Bad fault
    by_patch o e = rw e refl

    by_tests : (full : Bool) (o : Option Link) → (if full then Some TooLong else option_and_then (patch_set_fault k) o) ≡ Some fault → (if full then Bad TooLong else before_change d k o) ≡ Bad fault
    by_tests true o e = let f : Some TooLong ≡ Some fault = e in cc
    by_tests false None e = absurd (let f : None ≡ Some fault = e in cc)
    by_tests false (Some l) e = by_patch (patch_set_fault k l) e

pub bad_stands : (b : Branch) (n c : ℕ) (s : Standing) (fault : ChainFault) → parent_standing b c ≡ Some s → link_fault b n s ≡ Some fault → before b n c ≡ Bad fault
bad_stands b n c s fault p e = before_by_parent b n c s p ∙ bad_known b n s fault e

pub base_stands : (b : Branch) (n c : ℕ) → parent_standing b c ≡ Some InBranch → before b n c ≡ TheBase
base_stands b n c p = before_by_parent b n c InBranch p

-- ==== walks that grow at the front, and how they end

pub IsWalk-more : (b : Branch) (walk : List ℕ) (d c : ℕ) → IsWalk b walk c → Follows b d (first_of walk) → IsWalk b (d ∷ walk) c
IsWalk-more b [] d c h f = absurd h
IsWalk-more b (e ∷ rest) d c h f = (f, h)

-- a walk of 1 to 100 changes, and what stands before it
pub record Meets (b : Branch) (walk : List ℕ) (c : ℕ) (v : Before) : Type 0 where
  pub walks : IsWalk b walk c
  pub short : length walk ≤ most_changes
  pub meets : before b (length walk) (first_of walk) ≡ v

-- no change stands before
abbrev pub IsEnd : Before → Type 0
IsEnd (Change d) = ⊥
IsEnd v = Unit {0}

-- ---- the three ways to end

pub chain_meets : (b : Branch) (walk : List ℕ) (c : ℕ) → IsChain b walk c → Meets b walk c TheBase
chain_meets b walk c h = record { walks = h.walks; short = h.short; meets = base_stands b (length walk) (first_of walk) h.based }

pub bad_meets : (b : Branch) (walk : List ℕ) (c : ℕ) (fault : ChainFault) → IsBadLink b walk c fault → Meets b walk c (Bad fault)
bad_meets b walk c fault h = record { walks = h.walks; short = h.short; meets = bad_stands b (length walk) (first_of walk) h.parent fault h.is h.wrong }

pub wanted_meets : (b : Branch) (walk : List ℕ) (c : ℕ) (want : Want) → IsWanted b walk c want → Meets b walk c (Wants want)
wanted_meets b walk c want h = record { walks = h.walks; short = h.short; meets = lacks_stands b (length walk) (first_of walk) want h.lacks }

pub meets_chain : (b : Branch) (walk : List ℕ) (c : ℕ) → Meets b walk c TheBase → IsChain b walk c
meets_chain b walk c h = record { walks = h.walks; short = h.short; based = meaning b (length walk) (first_of walk) TheBase h.meets }

pub meets_bad : (b : Branch) (walk : List ℕ) (c : ℕ) (fault : ChainFault) → Meets b walk c (Bad fault) → IsBadLink b walk c fault
meets_bad b walk c fault h =
    let m = meaning b (length walk) (first_of walk) (Bad fault) h.meets in
    record { walks = h.walks; short = h.short; parent = m.0; is = m.1; wrong = m.2 }

pub meets_wanted : (b : Branch) (walk : List ℕ) (c : ℕ) (want : Want) → Meets b walk c (Wants want) → IsWanted b walk c want
meets_wanted b walk c want h = record { walks = h.walks; short = h.short; lacks = meaning b (length walk) (first_of walk) (Wants want) h.meets h.short }

-- ---- one more change

not_full : (n : ℕ) → (n == 100) ≡ false → n ≢ 100
not_full n e h = absurd (let f : (n == 100) ≡ true = grind (arith, nat_tests) in false≢true (sym e ∙ f))

-- a walk that meets a change goes on from it
pub record GoesOn (b : Branch) (walk : List ℕ) (c d : ℕ) : Type 0 where
  pub walks : IsWalk b (d ∷ walk) c
  pub more : length walk < most_changes

pub goes_on : (b : Branch) (walk : List ℕ) (c d : ℕ) → Meets b walk c (Change d) → GoesOn b walk c d
goes_on b walk c d h =
    let m = meaning b (length walk) (first_of walk) (Change d) h.meets in
    let other : length walk ≢ 100 = not_full (length walk) m.0 in
    let short : length walk ≤ 100 = h.short in
    record { walks = IsWalk-more b walk d c h.walks m.1; more = omega arith }

-- ---- only one walk to a change ends

-- what stands before a walk, the nearest first
abbrev AreBefore : Branch → List ℕ → List ℕ → Type 0
AreBefore b more [] = ⊥
AreBefore b [] (d ∷ rest) = Unit {0}
AreBefore b (e ∷ more) (d ∷ rest) = Follows b e d × AreBefore b more (e ∷ d ∷ rest)

-- the walk with more before it
abbrev onto : List ℕ → List ℕ → List ℕ
onto [] rest = rest
onto (d ∷ more) rest = onto more (d ∷ rest)

length_onto : (more rest : List ℕ) → length rest ≤ length (onto more rest)
length_onto [] rest = omega arith
length_onto (d ∷ more) rest = let h : length (d ∷ rest) ≤ length (onto more (d ∷ rest)) = length_onto more (d ∷ rest) in omega arith

onto-push : (more : List ℕ) (d : ℕ) (rest : List ℕ) → onto (more ++ d ∷ []) rest ≡ d ∷ onto more rest
onto-push [] d rest = refl
onto-push (x ∷ more) d rest = onto-push more d (x ∷ rest)

AreBefore-push : (b : Branch) (more : List ℕ) (d : ℕ) (rest : List ℕ) → AreBefore b more rest → Follows b d (first_of (onto more rest)) → AreBefore b (more ++ d ∷ []) rest
AreBefore-push b [] d [] h f = h
AreBefore-push b [] d (x ∷ rest) h f = (f, tt)
AreBefore-push b (y ∷ more) d [] h f = h
AreBefore-push b (y ∷ more) d (x ∷ rest) h f = (h.0, AreBefore-push b more d (y ∷ x ∷ rest) h.1 f)

-- a walk is what stands before its change
walk_before : (b : Branch) (xs : List ℕ) (c : ℕ) → IsWalk b xs c → (more : List ℕ) × (xs ≡ onto more (c ∷ [])) × AreBefore b more (c ∷ [])
walk_before b [] c h = absurd h
walk_before b (d ∷ []) c h = ([], ap (λ (x : ℕ). x ∷ []) h, tt)
walk_before b (d ∷ e ∷ rest) c h =
    let tail = walk_before b (e ∷ rest) c h.1 in
    let f : Follows b d (first_of (onto tail.0 (c ∷ []))) = subst (λ (w : List ℕ). Follows b d (first_of w)) tail.1 h.0 in
    (tail.0 ++ d ∷ [], ap (λ (w : List ℕ). d ∷ w) tail.1 ∙ sym (onto-push tail.0 d (c ∷ [])), AreBefore-push b tail.0 d (c ∷ []) tail.2 f)

-- a walk and what it meets, without its change
record Stops (b : Branch) (walk : List ℕ) (v : Before) : Type 0 where
  short : length walk ≤ most_changes
  meets : before b (length walk) (first_of walk) ≡ v
  is_end : IsEnd v

has_room : (n : ℕ) → n < 100 → (n == 100) ≡ false
has_room n h = grind (arith, nat_tests)

next_stands : (b : Branch) (x c : ℕ) (xs rest : List ℕ) → Follows b x c → length (onto xs (x ∷ c ∷ rest)) ≤ 100 → before b (length (c ∷ rest)) c ≡ Change x
next_stands b x c xs rest f short =
    let more : length (x ∷ c ∷ rest) ≤ length (onto xs (x ∷ c ∷ rest)) = length_onto xs (x ∷ c ∷ rest) in
    follows_stands b (length (c ∷ rest)) x c (has_room (length (c ∷ rest)) (omega arith)) f

ends_here : (b : Branch) (n c x : ℕ) (v : Before) → before b n c ≡ v → before b n c ≡ Change x → IsEnd v → ⊥
ends_here b n c x v h k e = subst IsEnd (sym h ∙ k) e

one_before : (b : Branch) (v w : Before) (xs ys rest : List ℕ) → AreBefore b xs rest → AreBefore b ys rest → Stops b (onto xs rest) v → Stops b (onto ys rest) w → onto xs rest ≡ onto ys rest
one_before b v w xs ys [] h k e f = absurd h
one_before b v w [] [] (c ∷ rest) h k e f = refl
one_before b v w [] (y ∷ ys) (c ∷ rest) h k e f = absurd (ends_here b (length (c ∷ rest)) c y v e.meets (next_stands b y c ys rest k.0 f.short) e.is_end)
one_before b v w (x ∷ xs) [] (c ∷ rest) h k e f = absurd (ends_here b (length (c ∷ rest)) c x w f.meets (next_stands b x c xs rest h.0 e.short) f.is_end)
one_before b v w (x ∷ xs) (y ∷ ys) (c ∷ rest) h k e f =
    let both : Change y ≡ Change x = sym (next_stands b y c ys rest k.0 f.short) ∙ next_stands b x c xs rest h.0 e.short in
    let same : y ≡ x = cc in
    let at_x : AreBefore b ys (x ∷ c ∷ rest) = subst (λ (z : ℕ). AreBefore b ys (z ∷ c ∷ rest)) same k.1 in
    let ends_x : Stops b (onto ys (x ∷ c ∷ rest)) w = subst (λ (z : ℕ). Stops b (onto ys (z ∷ c ∷ rest)) w) same f in
    one_before b v w xs ys (x ∷ c ∷ rest) h.1 at_x e ends_x ∙ ap (λ (z : ℕ). onto ys (z ∷ c ∷ rest)) (sym same)

pub one_walk : (b : Branch) (xs ys : List ℕ) (c : ℕ) (v w : Before) → Meets b xs c v → IsEnd v → Meets b ys c w → IsEnd w → xs ≡ ys
one_walk b xs ys c v w h i k j =
    let p = walk_before b xs c h.walks in
    let q = walk_before b ys c k.walks in
    let e : Stops b xs v = record { short = h.short; meets = h.meets; is_end = i } in
    let f : Stops b ys w = record { short = k.short; meets = k.meets; is_end = j } in
    p.1 ∙ (one_before b v w p.0 q.0 (c ∷ []) p.2 q.2 (subst (λ (z : List ℕ). Stops b z v) p.1 e) (subst (λ (z : List ℕ). Stops b z w) q.1 f) ∙ sym q.1)

-- and it meets one thing
pub one_end : (b : Branch) (xs ys : List ℕ) (c : ℕ) (v w : Before) → Meets b xs c v → IsEnd v → Meets b ys c w → IsEnd w → v ≡ w
one_end b xs ys c v w h i k j =
    let there : before b (length ys) (first_of ys) ≡ v = subst (λ (z : List ℕ). before b (length z) (first_of z) ≡ v) (one_walk b xs ys c v w h i k j) h.meets in
    sym there ∙ k.meets

-- ---- some walk to a change ends

-- a walk that ends
pub record Ending (b : Branch) (c : ℕ) : Type 0 where
  pub walk : List ℕ
  pub met : Before
  pub meets : Meets b walk c met
  pub is_end : IsEnd met

ends_from : (b : Branch) (c : ℕ) (fuel : ℕ) (walk : List ℕ) (v : Before) → 100 ≤ length walk + fuel → Meets b walk c v → Ending b c
ends_from b c fuel walk TheBase enough h = record { walk = walk; met = TheBase; meets = h; is_end = tt }
ends_from b c fuel walk (Bad fault) enough h = record { walk = walk; met = Bad fault; meets = h; is_end = tt }
ends_from b c fuel walk (Wants want) enough h = record { walk = walk; met = Wants want; meets = h; is_end = tt }
ends_from b c zero walk (Change d) enough h =
    let on = goes_on b walk c d h in
    let more : length walk < 100 = on.more in
    absurd (omega arith)
ends_from b c (suc fuel) walk (Change d) enough h =
    let on = goes_on b walk c d h in
    let more : length walk < 100 = on.more in
    ends_from b c fuel (d ∷ walk) (before b (length (d ∷ walk)) d) (omega arith) (record { walks = on.walks; short = omega arith; meets = refl })

pub ending : (b : Branch) (c : ℕ) → Ending b c
ending b c = ends_from b c 99 (c ∷ []) (before b 1 c) (omega arith) (record { walks = refl; short = omega arith; meets = refl })

-- what the code finds before a walk
pub met : (b : Branch) (walk : List ℕ) (c n first : ℕ) (v : Before) → IsWalk b walk c → n ≤ 100 → length walk ≡ n → first_of walk ≡ first → v ≡ before b n first → Meets b walk c v
met b walk c n first v walks short counted begins e = record { walks = walks; short = omega arith; meets = rw (counted, begins) (sym e) }

-- a fault that is wrong with a link isn't that something is unknown
never_unknown : (b : Branch) (n : ℕ) (s : Standing) → link_fault b n s ≡ Some Unknown → ⊥
never_unknown b n InBranch e = absurd (let f : None ≡ Some Unknown = e in cc)
never_unknown b n Nowhere e = absurd (let f : Some Broken ≡ Some Unknown = e in cc)
never_unknown b n (PatchSet d k) e = by_tests (n == most_changes) (b.link d) e
  where
    by_parts : (same wip : Bool) (s : State) → (if not same then Some Outdated else if is_abandoned s then Some Abandoned else if wip then Some Wip else if is_merged s then Some Broken else None) ≡ Some Unknown → ⊥
    by_parts false wip s e = let f : Some Outdated ≡ Some Unknown = e in cc
    by_parts true wip AbandonedState e = let f : Some Abandoned ≡ Some Unknown = e in cc
    by_parts true true New e = let f : Some Wip ≡ Some Unknown = e in cc
    by_parts true true MergedState e = let f : Some Wip ≡ Some Unknown = e in cc
    by_parts true false New e = let f : None ≡ Some Unknown = e in cc
    by_parts true false MergedState e = let f : Some Broken ≡ Some Unknown = e in cc

    by_tests : (full : Bool) (o : Option Link) → (if full then Some TooLong else option_and_then (patch_set_fault k) o) ≡ Some Unknown → ⊥
    by_tests true o e = let f : Some TooLong ≡ Some Unknown = e in cc
    by_tests false None e = let f : None ≡ Some Unknown = e in cc
    by_tests false (Some l) e = by_parts (k == l.patch) l.wip l.state e

pub bad_fault : (b : Branch) (walk : List ℕ) (c : ℕ) (fault : ChainFault) → IsBadLink b walk c fault → IsFault b c fault
bad_fault b walk c Memory h = tt
bad_fault b walk c Unknown h = absurd (never_unknown b (length walk) h.parent h.wrong)
bad_fault b walk c _ h = (walk, h)

-- ---- what an end decides

-- nothing is missing there
abbrev pub IsTold : Before → Type 0
IsTold (Change d) = ⊥
IsTold (Wants want) = ⊥
IsTold _ = Unit {0}

pub told_end : (v : Before) → IsTold v → IsEnd v
told_end (Change d) t = t
told_end (Wants want) t = absurd t
told_end _ t = tt

-- where a walk to a change ends and nothing is missing, nothing is wanted
pub decided : (b : Branch) (walk : List ℕ) (c : ℕ) (v : Before) → Meets b walk c v → IsTold v → IsDecided b c
decided b walk c v h told = λ other want w.
    subst IsTold (one_end b walk other c v (Wants want) h (told_end v told) (wanted_meets b other c want w) tt) told

-- ==== fronts of chains

front_walks : (b : Branch) (xs : List ℕ) (d : ℕ) (ys : List ℕ) (c : ℕ) → IsWalk b (xs ++ d ∷ ys) c → IsWalk b (xs ++ d ∷ []) d
front_walks b [] d ys c h = refl
front_walks b (x ∷ []) d [] c h = (h.0, refl)
front_walks b (x ∷ []) d (y ∷ ys) c h = (h.0, refl)
front_walks b (x ∷ y ∷ xs) d ys c h = (h.0, front_walks b (y ∷ xs) d ys c h.1)

first_same : (xs : List ℕ) (d : ℕ) (ys : List ℕ) → first_of (xs ++ d ∷ ys) ≡ first_of (xs ++ d ∷ [])
first_same [] d ys = refl
first_same (x ∷ xs) d ys = refl

front_length : (xs : List ℕ) (d : ℕ) (ys : List ℕ) → length (xs ++ d ∷ []) ≤ length (xs ++ d ∷ ys)
front_length xs d ys = omega (arith, length-append xs (d ∷ []), length-append xs (d ∷ ys))

pub front_is_chain : (b : Branch) (xs ys : List ℕ) (d c : ℕ) → IsChain b (xs ++ d ∷ ys) c → IsChain b (xs ++ d ∷ []) d
front_is_chain b xs ys d c h =
    let short : length (xs ++ d ∷ ys) ≤ 100 = h.short in
    record { walks = front_walks b xs d ys c h.walks; short = omega (arith, front_length xs d ys); based = rw (← first_same xs d ys) h.based }

-- a change doesn't stand again later in its chain
never_twice : (b : Branch) (xs mid ys : List ℕ) (d e c : ℕ) → IsChain b ((xs ++ d ∷ mid) ++ e ∷ ys) c → d ≡ e → ⊥
never_twice b xs mid ys d e c h same =
    let far : IsChain b ((xs ++ d ∷ mid) ++ e ∷ []) e = front_is_chain b (xs ++ d ∷ mid) ys e c h in
    let again : IsChain b (xs ++ d ∷ (mid ++ e ∷ ys)) c = subst (λ (w : List ℕ). IsChain b w c) (append_assoc xs (d ∷ mid) (e ∷ ys)) h in
    let near : IsChain b (xs ++ d ∷ []) d = front_is_chain b xs (mid ++ e ∷ ys) d c again in
    let near_e : IsChain b (xs ++ d ∷ []) e = subst (λ (x : ℕ). IsChain b (xs ++ d ∷ []) x) same near in
    let alike : xs ++ d ∷ [] ≡ (xs ++ d ∷ mid) ++ e ∷ [] = one_walk b (xs ++ d ∷ []) ((xs ++ d ∷ mid) ++ e ∷ []) e TheBase TheBase (chain_meets b (xs ++ d ∷ []) e near_e) tt (chain_meets b ((xs ++ d ∷ mid) ++ e ∷ []) e far) tt in
    let lengths : length (xs ++ d ∷ []) ≡ length ((xs ++ d ∷ mid) ++ e ∷ []) = ap length alike in
    omega (arith, length-append xs (d ∷ []), length-append (xs ++ d ∷ mid) (e ∷ []), length-append xs (d ∷ mid))

all_others : (b : Branch) (xs mid ys : List ℕ) (d c : ℕ) → IsChain b ((xs ++ d ∷ mid) ++ ys) c → AllByRecursion (λ y. (d == y) ≡ false) ys
all_others b xs mid [] d c h = tt
all_others b xs mid (e ∷ ys) d c h =
    let other : (d == e) ≡ false = ⊎_elim (λ (t : (d == e) ≡ true). absurd (never_twice b xs mid ys d e c h (eqb-true d e t))) (λ (f : (d == e) ≡ false). f) (cases_Bool (d == e)) in
    let moved : (xs ++ d ∷ mid) ++ e ∷ ys ≡ (xs ++ d ∷ (mid ++ e ∷ [])) ++ ys = simp append_assoc in
    (other, all_others b xs (mid ++ e ∷ []) ys d c (subst (λ (w : List ℕ). IsChain b w c) moved h))

distinct_from : (b : Branch) (xs ys : List ℕ) (c : ℕ) → IsChain b (xs ++ ys) c → IsDistinct ◌==◌ ys
unfolding IsDistinct
distinct_from b xs [] c h = tt
distinct_from b xs (d ∷ ys) c h =
    let moved : xs ++ d ∷ ys ≡ (xs ++ d ∷ []) ++ ys = simp append_assoc in
    let there : IsChain b ((xs ++ d ∷ []) ++ ys) c = subst (λ (w : List ℕ). IsChain b w c) moved h in
    (all_others b xs [] ys d c there, distinct_from b (xs ++ d ∷ []) ys c there)

pub chain_distinct : (b : Branch) (walk : List ℕ) (c : ℕ) → IsChain b walk c → IsDistinct ◌==◌ walk
chain_distinct b walk c h = distinct_from b [] walk c h

-- it is the change of the chain, or ready to join before it
abbrev IsLastOrReady : Branch → ℕ → ℕ → Type 0
IsLastOrReady b c d = (d ≡ c) ⊎ IsReady b d

All-none : (P : ℕ → Type 0) → All P []
All-none P = search rules

ready_walk : (b : Branch) (walk : List ℕ) (c : ℕ) → IsWalk b walk c → All (λ d. (d ≡ c) ⊎ IsReady b d) walk
ready_walk b [] c h = absurd h
ready_walk b (d ∷ []) c h = All-cons (IsLastOrReady b c) d [] (inl h) (All-none (IsLastOrReady b c))
ready_walk b (d ∷ e ∷ rest) c h =
    let f = h.0 in
    All-cons (IsLastOrReady b c) d (e ∷ rest) (inr (record { link = f.link; there = f.there; is_open = f.is_open; is_ready = f.is_ready })) (ready_walk b (e ∷ rest) c h.1)

pub chain_ready : (b : Branch) (walk : List ℕ) (c : ℕ) → IsChain b walk c → All (λ d. (d ≡ c) ⊎ IsReady b d) walk
chain_ready b walk c h = ready_walk b walk c h.walks

-- ==== places of one list of changes after another

places_from-append : (n : ℕ) (xs ys : List ℕ) → places_from n (xs ++ ys) ≡ places_from n xs ++ places_from (n + length xs) ys
places_from-append n [] ys = ap (λ (m : ℕ). places_from m ys) (let e : n ≡ n + 0 = omega arith in e)
places_from-append n (x ∷ xs) ys =
    ap (λ (rest : List (ℕ × ℕ)). (x, n) ∷ rest) (places_from-append (n + 1) xs ys ∙ ap (λ (m : ℕ). places_from (n + 1) xs ++ places_from m ys) (let e : n + 1 + length xs ≡ n + length (x ∷ xs) = omega arith in e))

pub places_append : (joined chain : List ℕ) → places (joined ++ chain) ≡ places joined ++ places_from (length joined + 1) chain
places_append joined chain = places_from-append 1 joined chain ∙ ap (λ (m : ℕ). places joined ++ places_from m chain) (let e : 1 + length joined ≡ length joined + 1 = omega arith in e)
