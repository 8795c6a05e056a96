-- Look-ups of what is wanted end.
use Rattle.std.proofs.Common.{◌≡◌, ℕ, zero, suc, ◌+◌, ◌-◌, ◌*◌, ◌<◌, ◌≤◌, Bool, true, false, List, [], ◌∷◌, length, Option, Some, None, IsSome, ◌⊎◌, inl, inr, refl, sym, ap, ◌∙◌, subst, arith, ◌==◌, if◌then◌else◌, option_map}
use Rattle.std.{proofs.lemmas.Bool.Decides.nat_tests, specs.Option.option_map_or}
use Rattle.review_chain.proofs.Parting.{before_kept, parent_kept, none_some}
use Rattle.review_chain.proofs.Walking.{meaning, before_by_parent, lacks_stands, Meets, IsTold, decided, goes_on, meets_wanted, wanted_meets, one_end}
use Rattle.review_chain.specs.Branches.{Branch, parent_standing}
use Rattle.review_chain.specs.Parts.{Want, TheChange, TheCommit, IsWanted, IsPart, Knows, Lacks, NeedsChange}
use Rattle.review_chain.specs.Steps.{Before, TheBase, Change, Bad, Wants, before, before_link, before_known, before_change, before_fault, before_parent, left, left_by, left_from}
use Rattle.review_chain.specs.Walks.{IsWalk, first_of, most_changes, patch_set_fault}
use Rattle.review_chain.specs.declared.links.{Link.Link, Standing.Standing, Standing.TheVariants.PatchSet}
use Rattle.review_chain.specs.declared.walks.ChainFault.{ChainFault, TheVariants.TooLong}

-- ---- how many at most

left_by_most : (twice : ℕ) (v : Before) (further : ℕ → ℕ) → ((d : ℕ) → further d ≤ twice + 1) → left_by twice v further ≤ twice + 1
left_by_most twice (Change d) further h = h d
left_by_most twice (Wants (TheChange d)) further h = omega arith
left_by_most twice _ further h = omega arith

left_most : (b : Branch) (more c : ℕ) → left_from b more c ≤ 2 * more + 1
unfolding left_from
left_most b zero c = left_by_most 0 (before b most_changes c) (λ d. 0) (λ d. omega arith)
left_most b (suc more) c =
    let further = λ (d : ℕ). left_from b more d in
    let h : left_by (2 * more + 2) (before b (most_changes - suc more) c) further ≤ 2 * more + 2 + 1 = left_by_most (2 * more + 2) (before b (most_changes - suc more) c) further (λ d. let k : left_from b more d ≤ 2 * more + 1 = left_most b more d in omega arith) in
    omega arith

pub most_left : (b : Branch) (c : ℕ) → left b c ≤ 200
most_left b c = by_link (b.link c)
  where
    by_link : (o : Option Link) → option_map_or (λ (l : Link). left_from b 99 c) o 200 ≤ 200
    by_link None = omega arith
    by_link (Some l) = let h : left_from b 99 c ≤ 2 * 99 + 1 = left_most b 99 c in omega arith

-- ---- a look-up lowers it

fault_left : (twice d : ℕ) (fault : Option ChainFault) (further : ℕ → ℕ) → further d ≤ twice → left_by twice (before_fault d fault) further ≤ twice
fault_left twice d None further h = h
fault_left twice d (Some fault) further h = omega arith

change_left : (twice d k : ℕ) (o : Option Link) (further : ℕ → ℕ) → further d ≤ twice → left_by twice (before_change d k o) further ≤ twice
change_left twice d k None further h = omega arith
change_left twice d k (Some l) further h = fault_left twice d (patch_set_fault k l) further h

-- where it is known what the parent is
known_left : (b : Branch) (n twice : ℕ) (s : Standing) (further : ℕ → ℕ) → ((d : ℕ) → further d ≤ twice) → left_by twice (before_known b n s) further ≤ twice
known_left b n twice (PatchSet d k) further h = by_full (n == most_changes)
  where
    by_full : (full : Bool) → left_by twice (if full then Bad TooLong else before_change d k (b.link d)) further ≤ twice
    by_full true = omega arith
    by_full false = change_left twice d k (b.link d) further (h d)
known_left b n twice _ further h = omega arith

-- where the change is known whose patch set the parent is
fault_less : (twice d : ℕ) (fault : Option ChainFault) (further : ℕ → ℕ) → further d < twice → left_by twice (before_fault d fault) further < twice
fault_less twice d None further h = h
fault_less twice d (Some fault) further h = omega arith

there_less : (twice d k : ℕ) (o : Option Link) (further : ℕ → ℕ) → IsSome o → further d < twice → left_by twice (before_change d k o) further < twice
there_less twice d k None further s h = absurd (none_some {X = Link} None refl s)
there_less twice d k (Some l) further s h = fault_less twice d (patch_set_fault k l) further h

-- what stands before, once the commit is known that was wanted
commit_less : (b after : Branch) (n c twice : ℕ) (x : List ℕ) (further : ℕ → ℕ) → IsPart b after → Lacks b n c (TheCommit x) → IsSome (after.standing x) → ((d : ℕ) → further d ≤ twice) → left_by twice (before after n c) further ≤ twice
commit_less b after n c twice x further is lacks there h = by_link (b.link c) refl lacks.1
  where
    by_standing : (o : Option Standing) → IsSome o → left_by twice (before_parent after n x o) further ≤ twice
    by_standing None s = absurd (none_some {X = Standing} None refl s)
    by_standing (Some s) k = known_left after n twice s further h

    by_link : (o : Option Link) → b.link c ≡ o → option_map (λ l. l.parent) o ≡ Some x → left_by twice (before after n c) further ≤ twice
    by_link None e p = absurd (let f : None ≡ Some x = p in cc)
    by_link (Some l) e p =
        let f : Some l.parent ≡ Some x = p in
        let same : l.parent ≡ x = cc in
        let stands : before after n c ≡ before_parent after n x (after.standing x) =
        ap (before_link after n c) (is.link c l e) ∙ ap (λ y. before_parent after n y (after.standing y)) same in
        rw stands (by_standing (after.standing x) there)

-- what stands before, once the change is known that was wanted
change_less : (b after : Branch) (n c d k twice : ℕ) (further : ℕ → ℕ) → IsPart b after → n < 100 → parent_standing b c ≡ Some (PatchSet d k) → IsSome (after.link d) → further d < twice → left_by twice (before after n c) further < twice
change_less b after n c d k twice further is more p there h =
    let full : (n == 100) ≡ false = grind (arith, nat_tests) in
    let stands : before after n c ≡ before_change d k (after.link d) =
    before_by_parent after n c (PatchSet d k) (parent_kept b after is (PatchSet d k) c (b.link c) refl p) ∙ ap (λ t. if t then Bad TooLong else before_change d k (after.link d)) full in
    rw stands (there_less twice d k (after.link d) further there h)

-- a walk that ends where nothing is missing
record Told (b : Branch) (c : ℕ) : Type 0 where
  walk : List ℕ
  met : Before
  meets : Meets b walk c met
  told : IsTold met

-- what is wanted for the chain of a change is known afterwards
abbrev Learns : Branch → Branch → ℕ → Type 0
Learns b after c = (walk : List ℕ) (want : Want) → IsWanted b walk c want → Knows after want

-- fewer are left from a change on, or nothing is missing
abbrev Lowers : Branch → Branch → ℕ → ℕ → ℕ → Type 0
Lowers b after c more first = (left_from after more first < left_from b more first) ⊎ Told b c

lower_last : (b after : Branch) (c : ℕ) → IsPart b after → Learns b after c → (walk : List ℕ) (v : Before) → length walk ≡ 100 → IsSome (b.link (first_of walk)) → Meets b walk c v → Lowers b after c 0 (first_of walk)
unfolding left_from
lower_last b after c is learns walk TheBase full there h = inr (record { walk = walk; met = TheBase; meets = h; told = tt })
lower_last b after c is learns walk (Bad fault) full there h = inr (record { walk = walk; met = Bad fault; meets = h; told = tt })
lower_last b after c is learns walk (Change d) full there h =
    let on = goes_on b walk c d h in
    let more : length walk < 100 = on.more in
    absurd (omega arith)
lower_last b after c is learns walk (Wants (TheChange d)) full there h =
    let lacks = meaning b (length walk) (first_of walk) (Wants (TheChange d)) h.meets h.short in
    absurd (by_need lacks.0 lacks.1)
  where
    by_need : b.link d ≡ None → NeedsChange b (length walk) (first_of walk) d → ⊥
    by_need none (inl same) = none_some (b.link (first_of walk)) (ap b.link (sym same) ∙ none) there
    by_need none (inr need) = let more : length walk < 100 = need.0 in omega arith
lower_last b after c is learns walk (Wants (TheCommit x)) full there h =
    let lacks = meaning b (length walk) (first_of walk) (Wants (TheCommit x)) h.meets h.short in
    let known = learns walk (TheCommit x) (meets_wanted b walk c (TheCommit x) h) in
    let now : left_by 0 (before after (length walk) (first_of walk)) (λ (d : ℕ). 0) ≤ 0 = commit_less b after (length walk) (first_of walk) 0 x (λ d. 0) is lacks known (λ d. omega arith) in
    let at_full : left_by 0 (before after most_changes (first_of walk)) (λ (d : ℕ). 0) ≤ 0 = subst (λ (n : ℕ). left_by 0 (before after n (first_of walk)) (λ (d : ℕ). 0) ≤ 0) full now in
    let was : before b most_changes (first_of walk) ≡ Wants (TheCommit x) = subst (λ (n : ℕ). before b n (first_of walk) ≡ Wants (TheCommit x)) full h.meets in
    inl (rw was (omega arith))

lower_one : (b after : Branch) (c more : ℕ) → IsPart b after → Learns b after c → (walk : List ℕ) (v : Before) → length walk ≡ 100 - suc more → length walk < 100 → IsSome (b.link (first_of walk)) → Meets b walk c v →
    ((d : ℕ) → Meets b walk c (Change d) → Lowers b after c more d) → Lowers b after c (suc more) (first_of walk)
unfolding left_from
lower_one b after c more is learns walk TheBase count room there h on = inr (record { walk = walk; met = TheBase; meets = h; told = tt })
lower_one b after c more is learns walk (Bad fault) count room there h on = inr (record { walk = walk; met = Bad fault; meets = h; told = tt })
lower_one b after c more is learns walk (Change d) count room there h on =
    let was : before b (most_changes - suc more) (first_of walk) ≡ Change d = subst (λ (n : ℕ). before b n (first_of walk) ≡ Change d) count h.meets in
    let now : before after (most_changes - suc more) (first_of walk) ≡ Change d = before_kept b after is (most_changes - suc more) (first_of walk) (Change d) was tt in
    rw (was, now) (on d h)
lower_one b after c more is learns walk (Wants (TheChange d)) count room there h on =
    let lacks = meaning b (length walk) (first_of walk) (Wants (TheChange d)) h.meets h.short in
    let was : before b (most_changes - suc more) (first_of walk) ≡ Wants (TheChange d) = subst (λ (n : ℕ). before b n (first_of walk) ≡ Wants (TheChange d)) count h.meets in
    inl (rw was (by_need lacks.0 lacks.1))
  where
    further : ℕ → ℕ
    further d = left_from after more d

    by_need : b.link d ≡ None → NeedsChange b (length walk) (first_of walk) d → left_by (2 * more + 2) (before after (most_changes - suc more) (first_of walk)) (λ (d : ℕ). left_from after more d) < 2 * more + 2
    by_need none (inl same) = absurd (none_some (b.link (first_of walk)) (ap b.link (sym same) ∙ none) there)
    by_need none (inr (short, k, p)) =
        let known = learns walk (TheChange d) (meets_wanted b walk c (TheChange d) h) in
        let least : left_from after more d ≤ 2 * more + 1 = left_most after more d in
        let now : left_by (2 * more + 2) (before after (length walk) (first_of walk)) (λ (d : ℕ). left_from after more d) < 2 * more + 2 =
        change_less b after (length walk) (first_of walk) d k (2 * more + 2) (λ (d : ℕ). left_from after more d) is short p known (omega arith) in
        subst (λ (n : ℕ). left_by (2 * more + 2) (before after n (first_of walk)) (λ (d : ℕ). left_from after more d) < 2 * more + 2) count now
lower_one b after c more is learns walk (Wants (TheCommit x)) count room there h on =
    let lacks = meaning b (length walk) (first_of walk) (Wants (TheCommit x)) h.meets h.short in
    let known = learns walk (TheCommit x) (meets_wanted b walk c (TheCommit x) h) in
    let further = λ (d : ℕ). left_from after more d in
    let most : (d : ℕ) → further d ≤ 2 * more + 2 = λ d. let k : left_from after more d ≤ 2 * more + 1 = left_most after more d in omega arith in
    let now : left_by (2 * more + 2) (before after (length walk) (first_of walk)) further ≤ 2 * more + 2 = commit_less b after (length walk) (first_of walk) (2 * more + 2) x further is lacks known most in
    let at_count : left_by (2 * more + 2) (before after (most_changes - suc more) (first_of walk)) further ≤ 2 * more + 2 = subst (λ (n : ℕ). left_by (2 * more + 2) (before after n (first_of walk)) further ≤ 2 * more + 2) count now in
    let was : before b (most_changes - suc more) (first_of walk) ≡ Wants (TheCommit x) = subst (λ (n : ℕ). before b n (first_of walk) ≡ Wants (TheCommit x)) count h.meets in
    inl (rw was (omega arith))

lower : (b after : Branch) (c more : ℕ) → IsPart b after → Learns b after c → (walk : List ℕ) → length walk + more ≡ 100 → IsSome (b.link (first_of walk)) → IsWalk b walk c → Lowers b after c more (first_of walk)
lower b after c zero is learns walk count there walks =
    lower_last b after c is learns walk (before b (length walk) (first_of walk)) (omega arith) there (record { walks = walks; short = omega arith; meets = refl })
lower b after c (suc more) is learns walk count there walks =
    lower_one b after c more is learns walk (before b (length walk) (first_of walk)) (omega arith) (omega arith) there (record { walks = walks; short = omega arith; meets = refl })
    (λ d h.
    let on = goes_on b walk c d h in
    let f = (meaning b (length walk) (first_of walk) (Change d) h.meets).1 in
    lower b after c more is learns (d ∷ walk) (omega arith) (rw f.there refl) on.walks)

pub fewer_left : (b after : Branch) (walk : List ℕ) (c : ℕ) (want : Want) → IsPart b after → IsWanted b walk c want → Knows after want → left after c < left b c
fewer_left b after walk c want is wanted knows = by_link (b.link c) refl
  where
    learns : Learns b after c
    learns other want' w =
        let e : Wants want ≡ Wants want' = one_end b walk other c (Wants want) (Wants want') (wanted_meets b walk c want wanted) tt (wanted_meets b other c want' w) tt in
        let same : want ≡ want' = cc in
        subst (Knows after) same knows

    known_less : (o : Option Link) → IsSome o → option_map_or (λ (l : Link). left_from after 99 c) o 200 < 200
    known_less None s = absurd (none_some {X = Link} None refl s)
    known_less (Some l) s = let h : left_from after 99 c ≤ 2 * 99 + 1 = left_most after 99 c in omega arith

    itself : b.link c ≡ None → IsSome (after.link c)
    itself none =
        let first : Meets b (c ∷ []) c (Wants (TheChange c)) = record { walks = refl; short = omega arith; meets = lacks_stands b 1 c (TheChange c) (none, inl refl) } in
        learns (c ∷ []) (TheChange c) (meets_wanted b (c ∷ []) c (TheChange c) first)

    by_told : Told b c → ⊥
    by_told t = decided b t.walk c t.met t.meets t.told walk want wanted

    by_lower : (l : Link) → b.link c ≡ Some l → Lowers b after c 99 c → left after c < left b c
    by_lower l e (inl less) = rw (e, is.link c l e) less
    by_lower l e (inr told) = absurd (by_told told)

    by_link : (o : Option Link) → b.link c ≡ o → left after c < left b c
    by_link None e = rw e (known_less (after.link c) (itself e))
    by_link (Some l) e = by_lower l e (lower b after c 99 is learns (c ∷ []) (omega arith) (rw e refl) refl)
