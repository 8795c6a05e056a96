-- Parts of a branch: what they have of a chain, and what is wanted of it.
use Rattle.std.proofs.Common.{◌≡◌, ◌≢◌, ℕ, Bool, true, false, not, List, [], ◌∷◌, length, Option, Some, None, IsSome, ◌⊎◌, inl, inr, refl, sym, ap, ◌∙◌, subst, eqb-true, ◌==◌, if◌then◌else◌, option_and_then, option_map, zero, suc, ◌+◌, ◌-◌, ◌<◌, arith, Result, Ok, IfOk, IfSome, IfNone}
use Rattle.{std.proofs.lemmas.Bool.false≢true, review_words.specs.declared.shown.State.State}
use Rattle.review_words.specs.declared.shown.State.TheVariants.{New, Merged as MergedState, Abandoned as AbandonedState}
use Rattle.review_chain.proofs.Walking.{Meets, IsEnd, IsTold, ending, one_walk, one_end, chain_meets, bad_meets, meets_chain, meets_bad, meets_wanted, told_end, met, decided, goes_on, wanted_meets}
use Rattle.review_chain.specs.Branches.{Branch, IsWhole, parent_standing}
use Rattle.review_chain.specs.Parts.{Want, TheChange, TheCommit, IsDecided, IsPart, NeedsChange, Lacks, HasWalked, IsWanted}
use Rattle.review_chain.specs.Steps.{Before, TheBase, Change, Bad, Wants, before, before_link, before_parent, before_known, before_change, before_fault, want_of, wanted, wanted_by, wanted_from}
use Rattle.review_chain.specs.Walks.{Follows, IsWalk, first_of, IsChain, IsBadLink, is_abandoned, is_merged, link_fault, most_changes, patch_set_fault}
use Rattle.review_chain.specs.declared.links.{Link.Link, Standing.Standing}
use Rattle.review_chain.specs.declared.links.Standing.TheVariants.{InBranch, PatchSet, Nowhere}
use Rattle.review_chain.specs.declared.walks.ChainFault.{ChainFault}
use Rattle.review_chain.specs.declared.walks.ChainFault.TheVariants.{TooLong, Outdated, Abandoned, Wip, Broken}
use Rattle.review_chain.specs.declared.walks.{LookUp.LookUp, Walked.Walked}

-- ==== parts of a branch have its chain or its bad link, and whole branches one of the two

-- ---- what a part has, the whole has

-- something may be said of what stands before, unless it is wanted
abbrev pub IsMet : Before → Type 0
IsMet (Wants want) = ⊥
IsMet v = Unit {0}

keeps_change : (part whole : Branch) → IsPart part whole → (d k : ℕ) (o : Option Link) → part.link d ≡ o → IsMet (before_change d k o) → before_change d k (whole.link d) ≡ before_change d k o
keeps_change part whole is d k None e m = absurd m
keeps_change part whole is d k (Some l) e m = ap (before_change d k) (is.link d l e)

keeps_full : (part whole : Branch) → IsPart part whole → (d k : ℕ) (full : Bool) → IsMet (if full then Bad TooLong else before_change d k (part.link d)) →
    (if full then Bad TooLong else before_change d k (whole.link d)) ≡ (if full then Bad TooLong else before_change d k (part.link d))
keeps_full part whole is d k true m = refl
keeps_full part whole is d k false m = keeps_change part whole is d k (part.link d) refl m

keeps_known : (part whole : Branch) → IsPart part whole → (n : ℕ) (s : Standing) → IsMet (before_known part n s) → before_known whole n s ≡ before_known part n s
keeps_known part whole is n (PatchSet d k) m = keeps_full part whole is d k (n == most_changes) m
keeps_known part whole is n _ m = refl

keeps_parent : (part whole : Branch) → IsPart part whole → (n : ℕ) (x : List ℕ) (o : Option Standing) → part.standing x ≡ o → IsMet (before_parent part n x o) → before_parent whole n x (whole.standing x) ≡ before_parent part n x o
keeps_parent part whole is n x None e m = absurd m
keeps_parent part whole is n x (Some s) e m = ap (before_parent whole n x) (is.standing x s e) ∙ keeps_known part whole is n s m

keeps_link : (part whole : Branch) → IsPart part whole → (n c : ℕ) (o : Option Link) → part.link c ≡ o → IsMet (before_link part n c o) → before_link whole n c (whole.link c) ≡ before_link part n c o
keeps_link part whole is n c None e m = absurd m
keeps_link part whole is n c (Some l) e m = ap (before_link whole n c) (is.link c l e) ∙ keeps_parent part whole is n l.parent (part.standing l.parent) refl m

pub before_kept : (part whole : Branch) → IsPart part whole → (n c : ℕ) (v : Before) → before part n c ≡ v → IsMet v → before whole n c ≡ v
before_kept part whole is n c v e m = keeps_link part whole is n c (part.link c) refl (subst IsMet (sym e) m) ∙ e

pub parent_kept : (part whole : Branch) → IsPart part whole → (s : Standing) (c : ℕ) (o : Option Link) → part.link c ≡ o → option_and_then (λ l. part.standing l.parent) o ≡ Some s → parent_standing whole c ≡ Some s
parent_kept part whole is s c None e p = absurd (let f : None ≡ Some s = p in cc)
parent_kept part whole is s c (Some l) e p = rw (is.link c l e) (is.standing l.parent s p)

follows_kept : (part whole : Branch) → IsPart part whole → (d c : ℕ) → Follows part d c → Follows whole d c
follows_kept part whole is d c f = record {
  patch = f.patch;
  parent = parent_kept part whole is (PatchSet d f.patch) c (part.link c) refl f.parent;
  link = f.link;
  there = is.link d f.link f.there;
  current = f.current;
  is_open = f.is_open;
  is_ready = f.is_ready;
}

pub walk_kept : (part whole : Branch) → IsPart part whole → (walk : List ℕ) (c : ℕ) → IsWalk part walk c → IsWalk whole walk c
walk_kept part whole is (d ∷ e ∷ rest) c h = (follows_kept part whole is d e h.0, walk_kept part whole is (e ∷ rest) c h.1)
walk_kept part whole is _ c h = h

-- a change that is wanted, and of which the whole knows no more, is wanted there too
wanted_change : (whole : Branch) (d k e : ℕ) (o : Option Link) → before_change d k o ≡ Wants (TheChange e) → whole.link e ≡ None → before_change d k (whole.link d) ≡ Wants (TheChange e)
wanted_change whole d k e None is none = let f : Wants (TheChange d) ≡ Wants (TheChange e) = is in let same : d ≡ e = cc in ap (before_change d k) (ap whole.link same ∙ none) ∙ is
wanted_change whole d k e (Some l) is none = absurd (by_fault (patch_set_fault k l) is)
  where
    by_fault : (fault : Option ChainFault) → before_fault d fault ≡ Wants (TheChange e) → ⊥
    by_fault None f = let g : Change d ≡ Wants (TheChange e) = f in cc
    by_fault (Some fault) f = let g : Bad fault ≡ Wants (TheChange e) = f in cc

wanted_known : (part whole : Branch) (n e : ℕ) (s : Standing) → before_known part n s ≡ Wants (TheChange e) → whole.link e ≡ None → before_known whole n s ≡ Wants (TheChange e)
wanted_known part whole n e InBranch is none = absurd (let g : TheBase ≡ Wants (TheChange e) = is in cc)
wanted_known part whole n e Nowhere is none = absurd (let g : Bad Broken ≡ Wants (TheChange e) = is in cc)
wanted_known part whole n e (PatchSet d k) is none = by_full (n == most_changes) is
  where
    by_full : (full : Bool) → (if full then Bad TooLong else before_change d k (part.link d)) ≡ Wants (TheChange e) → (if full then Bad TooLong else before_change d k (whole.link d)) ≡ Wants (TheChange e)
    by_full true f = absurd (let g : Bad TooLong ≡ Wants (TheChange e) = f in cc)
    by_full false f = wanted_change whole d k e (part.link d) f none

wanted_parent : (part whole : Branch) → IsPart part whole → (n e : ℕ) (x : List ℕ) (o : Option Standing) → part.standing x ≡ o → before_parent part n x o ≡ Wants (TheChange e) → whole.link e ≡ None → before_parent whole n x (whole.standing x) ≡ Wants (TheChange e)
wanted_parent part whole is n e x None at f none = absurd (let g : Wants (TheCommit x) ≡ Wants (TheChange e) = f in cc)
wanted_parent part whole is n e x (Some s) at f none = ap (before_parent whole n x) (is.standing x s at) ∙ wanted_known part whole n e s f none

wanted_link : (part whole : Branch) → IsPart part whole → (n c e : ℕ) (o : Option Link) → part.link c ≡ o → before_link part n c o ≡ Wants (TheChange e) → whole.link e ≡ None → before_link whole n c (whole.link c) ≡ Wants (TheChange e)
wanted_link part whole is n c e None at f none =
    let g : Wants (TheChange c) ≡ Wants (TheChange e) = f in
    let same : c ≡ e = cc in
    ap (before_link whole n c) (ap whole.link same ∙ none) ∙ f
wanted_link part whole is n c e (Some l) at f none = ap (before_link whole n c) (is.link c l at) ∙ wanted_parent part whole is n e l.parent (part.standing l.parent) refl f none

pub wanted_stays : (part whole : Branch) → IsPart part whole → (walk : List ℕ) (c e : ℕ) → Meets part walk c (Wants (TheChange e)) → whole.link e ≡ None → Meets whole walk c (Wants (TheChange e))
wanted_stays part whole is walk c e h none =
    record { walks = walk_kept part whole is walk c h.walks; short = h.short; meets = wanted_link part whole is (length walk) (first_of walk) e (part.link (first_of walk)) refl h.meets none }

told_met : (v : Before) → IsTold v → IsMet v
told_met (Wants want) t = t
told_met _ t = tt

pub meets_kept : (part whole : Branch) → IsPart part whole → (walk : List ℕ) (c : ℕ) (v : Before) → Meets part walk c v → IsTold v → Meets whole walk c v
meets_kept part whole is walk c v h told = record { walks = walk_kept part whole is walk c h.walks; short = h.short; meets = before_kept part whole is (length walk) (first_of walk) v h.meets (told_met v told) }

-- ---- what is decided

end_told : (b : Branch) (c : ℕ) → IsDecided b c → (walk : List ℕ) (v : Before) → Meets b walk c v → IsEnd v → IsTold v
end_told b c decided walk (Change d) h e = e
end_told b c decided walk (Wants want) h e = decided walk want (meets_wanted b walk c want h)
end_told b c decided walk _ h e = tt

-- what the whole has, a part has in which nothing is wanted
pub meets_decided : (part whole : Branch) → IsPart part whole → (walk : List ℕ) (c : ℕ) (v : Before) → IsDecided part c → Meets whole walk c v → IsTold v → Meets part walk c v
meets_decided part whole is walk c v decided h told =
    let some = ending part c in
    let kept = meets_kept part whole is some.walk c some.met some.meets (end_told part c decided some.walk some.met some.meets some.is_end) in
    let same : some.walk ≡ walk = one_walk whole some.walk walk c some.met v kept some.is_end h (told_end v told) in
    let alike : some.met ≡ v = one_end whole some.walk walk c some.met v kept some.is_end h (told_end v told) in
    subst (λ (z : List ℕ). Meets part z c v) same (subst (λ (z : Before). Meets part some.walk c z) alike some.meets)

pub chain_kept : (part whole : Branch) (walk : List ℕ) (c : ℕ) → IsPart part whole → IsChain part walk c → IsChain whole walk c
chain_kept part whole walk c is h = meets_chain whole walk c (meets_kept part whole is walk c TheBase (chain_meets part walk c h) tt)

pub bad_kept : (part whole : Branch) (walk : List ℕ) (c : ℕ) (fault : ChainFault) → IsPart part whole → IsBadLink part walk c fault → IsBadLink whole walk c fault
bad_kept part whole walk c fault is h = meets_bad whole walk c fault (meets_kept part whole is walk c (Bad fault) (bad_meets part walk c fault h) tt)

pub chain_decided : (part whole : Branch) (walk : List ℕ) (c : ℕ) → IsPart part whole → IsDecided part c → IsChain whole walk c → IsChain part walk c
chain_decided part whole walk c is decided h = meets_chain part walk c (meets_decided part whole is walk c TheBase decided (chain_meets whole walk c h) tt)

pub bad_decided : (part whole : Branch) (walk : List ℕ) (c : ℕ) (fault : ChainFault) → IsPart part whole → IsDecided part c → IsBadLink whole walk c fault → IsBadLink part walk c fault
bad_decided part whole walk c fault is decided h = meets_bad part walk c fault (meets_decided part whole is walk c (Bad fault) decided (bad_meets whole walk c fault h) tt)

-- ---- each has one

by_end : (b : Branch) (c : ℕ) → IsDecided b c → (walk : List ℕ) (v : Before) → Meets b walk c v → IsEnd v → (found : List ℕ) × (IsChain b found c ⊎ ((fault : ChainFault) × IsBadLink b found c fault))
by_end b c decided walk TheBase h e = (walk, inl (meets_chain b walk c h))
by_end b c decided walk (Change d) h e = absurd e
by_end b c decided walk (Bad fault) h e = (walk, inr (fault, meets_bad b walk c fault h))
by_end b c decided walk (Wants want) h e = absurd (decided walk want (meets_wanted b walk c want h))

pub one_is_there : (b : Branch) (c : ℕ) → IsDecided b c → (walk : List ℕ) × (IsChain b walk c ⊎ ((fault : ChainFault) × IsBadLink b walk c fault))
one_is_there b c decided = let some = ending b c in by_end b c decided some.walk some.met some.meets some.is_end

-- ---- whole branches

pub none_some : {X : Type 0} (o : Option X) → o ≡ None → IsSome o → ⊥
none_some None e s = false≢true s
none_some (Some x) e s = let f : Some x ≡ None = e in cc

first_there : (b : Branch) (walk : List ℕ) (c : ℕ) → IsWalk b walk c → IsSome (b.link c) → IsSome (b.link (first_of walk))
first_there b [] c h there = absurd h
first_there b (d ∷ []) c h there = subst (λ (x : ℕ). IsSome (b.link x)) (sym h) there
first_there b (d ∷ e ∷ rest) c h there = let f = h.0 in rw f.there refl

-- a parent is in the branch, or the commit of a patch set of a change that is there
abbrev IsGood : Branch → Option Standing → Type 0
IsGood b (Some InBranch) = Unit {0}
IsGood b (Some (PatchSet d k)) = IsSome (b.link d)
IsGood b _ = ⊥

good_commit : (b : Branch) (o : Option Standing) (d k : ℕ) → o ≡ Some (PatchSet d k) → IsSome (b.link d) → IsGood b o
good_commit b o d k e there = subst (IsGood b) (sym e) there

good_parent : (b : Branch) → IsWhole b → (c : ℕ) (l : Link) (o : Option Standing) → b.link c ≡ Some l → b.standing l.parent ≡ o → IsGood b o
good_parent b whole c l o e p = by_base o p
  where
    by_based : (o : Option Standing) → b.standing l.parent ≡ o → b.standing l.parent ≢ Some InBranch → IsGood b o
    by_based o p outside = let good = whole.based c l e outside in good_commit b o good.0 good.1 (sym p ∙ good.2) good.3

    by_base : (o : Option Standing) → b.standing l.parent ≡ o → IsGood b o
    by_base (Some InBranch) p = tt
    by_base None p = by_based None p (λ q. let f : None ≡ Some InBranch = sym p ∙ q in cc)
    by_base (Some Nowhere) p = by_based (Some Nowhere) p (λ q. let f : Some Nowhere ≡ Some InBranch = sym p ∙ q in cc)
    by_base (Some (PatchSet d k)) p = by_based (Some (PatchSet d k)) p (λ q. let f : Some (PatchSet d k) ≡ Some InBranch = sym p ∙ q in cc)

good_standing : (b : Branch) → IsWhole b → (c : ℕ) (s : Standing) (o : Option Link) → b.link c ≡ o → option_and_then (λ l. b.standing l.parent) o ≡ Some s → IsGood b (Some s)
good_standing b whole c s None e p = absurd (let f : None ≡ Some s = p in cc)
good_standing b whole c s (Some l) e p = good_parent b whole c l (Some s) e p

never_lacks : (b : Branch) → IsWhole b → (n c : ℕ) (want : Want) → IsSome (b.link c) → Lacks b n c want → ⊥
never_lacks b whole n c (TheCommit x) there h = by_link (b.link c) refl h.1
  where
    by_link : (o : Option Link) → b.link c ≡ o → option_map (λ l. l.parent) o ≡ Some x → ⊥
    by_link None e p = let f : None ≡ Some x = p in cc
    by_link (Some l) e p = let f : Some l.parent ≡ Some x = p in let same : l.parent ≡ x = cc in good_parent b whole c l None e (ap b.standing same ∙ h.0)
never_lacks b whole n c (TheChange d) there h = by_need h.1
  where
    by_need : NeedsChange b n c d → ⊥
    by_need (inl same) = none_some (b.link c) (ap b.link (sym same) ∙ h.0) there
    by_need (inr (more, k, p)) = none_some (b.link d) h.0 (good_standing b whole c (PatchSet d k) (b.link c) refl p)

pub whole_decided : (b : Branch) (c : ℕ) → IsWhole b → IsSome (b.link c) → IsDecided b c
whole_decided b c whole there walk want h = never_lacks b whole (length walk) (first_of walk) want (first_there b walk c h.walks there) h.lacks

never_broken : (b : Branch) → IsWhole b → (x : List ℕ) (n : ℕ) (s : Standing) → b.standing x ≡ Some s → IsGood b (Some s) → link_fault b n s ≡ Some Broken → ⊥
never_broken b whole x n InBranch p good e = let f : None ≡ Some Broken = e in cc
never_broken b whole x n Nowhere p good e = good
never_broken b whole x n (PatchSet d k) p good e = by_tests (n == most_changes) (b.link d) refl e
  where
    by_parts : (same wip : Bool) (s : State) → (if not same then Some Outdated else if is_abandoned s then Some Abandoned else if wip then Some Wip else if is_merged s then Some Broken else None) ≡ Some Broken → (same ≡ true) × (s ≡ MergedState)
    by_parts false wip s e = absurd (let f : Some Outdated ≡ Some Broken = e in cc)
    by_parts true wip AbandonedState e = absurd (let f : Some Abandoned ≡ Some Broken = e in cc)
    by_parts true true New e = absurd (let f : Some Wip ≡ Some Broken = e in cc)
    by_parts true true MergedState e = absurd (let f : Some Wip ≡ Some Broken = e in cc)
    by_parts true false New e = absurd (let f : None ≡ Some Broken = e in cc)
    by_parts true false MergedState e = (refl, refl)

    by_tests : (full : Bool) (o : Option Link) → b.link d ≡ o → (if full then Some TooLong else option_and_then (patch_set_fault k) o) ≡ Some Broken → ⊥
    by_tests true o q e = let f : Some TooLong ≡ Some Broken = e in cc
    by_tests false None q e = let f : None ≡ Some Broken = e in cc
    by_tests false (Some l) q e = let parts = by_parts (k == l.patch) l.wip l.state e in whole.merged x d k l p q parts.1 (eqb-true k l.patch parts.0)

-- the commit that a change's parent is
commit_there : (b : Branch) (s : Standing) (o : Option Link) → option_and_then (λ l. b.standing l.parent) o ≡ Some s → (x : List ℕ) × (b.standing x ≡ Some s)
commit_there b s None p = absurd (let f : None ≡ Some s = p in cc)
commit_there b s (Some l) p = (l.parent, p)

pub whole_sound : (b : Branch) (walk : List ℕ) (c : ℕ) (fault : ChainFault) → IsWhole b → IsBadLink b walk c fault → fault ≢ Broken
whole_sound b walk c fault whole h e =
    let x = commit_there b h.parent (b.link (first_of walk)) h.is in
    never_broken b whole x.0 (length walk) h.parent x.1 (good_standing b whole (first_of walk) h.parent (b.link (first_of walk)) refl h.is) (h.wrong ∙ ap (λ (f : ChainFault). Some f) e)

-- ==== what is wanted for the chain of a change, as a value

-- what is said to be wanted is, and where nothing is said the change is decided
abbrev pub Says : Branch → ℕ → Option Want → Type 0
Says b c None = IsDecided b c
Says b c (Some want) = (walk : List ℕ) × IsWanted b walk c want

end_says : (b : Branch) (walk : List ℕ) (c : ℕ) (v : Before) (further : ℕ → Option Want) → Meets b walk c v → IsEnd v → Says b c (wanted_by v further)
end_says b walk c TheBase further h e = decided b walk c TheBase h tt
end_says b walk c (Change d) further h e = absurd e
end_says b walk c (Bad fault) further h e = decided b walk c (Bad fault) h tt
end_says b walk c (Wants want) further h e = (walk, meets_wanted b walk c want h)

met_says : (b : Branch) (walk : List ℕ) (c n : ℕ) (v : Before) (further : ℕ → Option Want) → length walk ≡ n → Meets b walk c v → ((d : ℕ) → v ≡ Change d → Says b c (further d)) → Says b c (wanted_by (before b n (first_of walk)) further)
met_says b walk c n v further count h on = subst (λ u. Says b c (wanted_by u further)) (sym h.meets ∙ ap (λ m. before b m (first_of walk)) count) (said_at v h on)
  where
    said_at : (u : Before) → Meets b walk c u → ((d : ℕ) → u ≡ Change d → Says b c (further d)) → Says b c (wanted_by u further)
    said_at TheBase k on = end_says b walk c TheBase further k tt
    said_at (Change d) k on = on d refl
    said_at (Bad fault) k on = end_says b walk c (Bad fault) further k tt
    said_at (Wants want) k on = end_says b walk c (Wants want) further k tt

says_from : (b : Branch) (c more : ℕ) (walk : List ℕ) → length walk + more ≡ 100 → IsWalk b walk c → Says b c (wanted_from b more (first_of walk))
unfolding wanted_from
says_from b c zero walk count walks =
    let full : length walk ≡ most_changes = omega arith in
    let met : Meets b walk c (before b (length walk) (first_of walk)) = record { walks = walks; short = omega arith; meets = refl } in
    met_says b walk c most_changes (before b (length walk) (first_of walk)) (λ d. None) full met
    (λ d is. let on = goes_on b walk c d (subst (Meets b walk c) is met) in let more : length walk < 100 = on.more in absurd (omega arith))
says_from b c (suc more) walk count walks =
    let here : length walk ≡ most_changes - suc more = omega arith in
    let met : Meets b walk c (before b (length walk) (first_of walk)) = record { walks = walks; short = omega arith; meets = refl } in
    met_says b walk c (most_changes - suc more) (before b (length walk) (first_of walk)) (λ d. wanted_from b more d) here met
    (λ d is. let on = goes_on b walk c d (subst (Meets b walk c) is met) in says_from b c more (d ∷ walk) (omega arith) on.walks)

pub wanted_says : (b : Branch) (c : ℕ) → Says b c (wanted b c)
wanted_says b c = says_from b c 99 (c ∷ []) (omega arith) refl

-- what a walk has come to, with what stands before it
pub walked_meets : (b : Branch) (w : Walked) (v : Before) → (h : HasWalked b w) → v ≡ before b w.count w.first → Meets b h.walk w.change v
walked_meets b w v h is = met b h.walk w.change w.count w.first v h.walks h.short h.counted h.begins is

-- what is wanted is what the end of a walk wants, wherever the walk was begun anew
pub walked_wants : (b : Branch) (w : Walked) (v : Before) → HasWalked b w → v ≡ before b w.count w.first → IsEnd v → wanted_by v (λ d. None) ≡ wanted b w.change
walked_wants b w v h is e = by_said (wanted b w.change) (wanted_says b w.change) v (walked_meets b w v h is) e
  where
    by_said : (o : Option Want) → Says b w.change o → (v : Before) → Meets b h.walk w.change v → IsEnd v → wanted_by v (λ d. None) ≡ o
    by_said None decided TheBase m e = refl
    by_said None decided (Change d) m e = absurd e
    by_said None decided (Bad fault) m e = refl
    by_said None decided (Wants want) m e = absurd (decided h.walk want (meets_wanted b h.walk w.change want m))
    by_said (Some want) said v m e = sym (ap (λ u. wanted_by u (λ d. None)) (one_end b said.0 h.walk w.change (Wants want) v (wanted_meets b said.0 w.change want said.1) tt m e))

-- where a change stands before a walk, the walk goes on with it
pub walked_on : (b : Branch) (w : Walked) (d : ℕ) → HasWalked b w → Change d ≡ before b w.count w.first → HasWalked b (record { change = w.change; first = d; count = w.count + 1 })
walked_on b w d h is =
    let on = goes_on b h.walk w.change d (walked_meets b w (Change d) h is) in
    let counted : length h.walk ≡ w.count = h.counted in
    let more : length h.walk < 100 = on.more in
    record { walk = d ∷ h.walk; walks = on.walks; begins = refl; counted = omega arith; short = omega arith }

-- a change alone is a walk to it
pub walked_alone : (b : Branch) (c : ℕ) → HasWalked b (record { change = c; first = c; count = 1 })
walked_alone b c = record { walk = c ∷ []; walks = refl; begins = refl; counted = refl; short = omega arith }

-- what was walked stays so where more is known
pub walked_kept : (part whole : Branch) → IsPart part whole → (w : Walked) → HasWalked part w → HasWalked whole w
walked_kept part whole is w h = record { walk = h.walk; walks = walk_kept part whole is h.walk w.change h.walks; begins = h.begins; counted = h.counted; short = h.short }

-- a change that is wanted, and of which no more is known afterwards, is still wanted
pub still_wanted : (b after : Branch) (c d : ℕ) → IsPart b after → wanted b c ≡ Some (TheChange d) → after.link d ≡ None → wanted after c ≡ Some (TheChange d)
still_wanted b after c d is w none =
    let said = subst (Says b c) w (wanted_says b c) in
    by_said (wanted after c) (wanted_says after c) (wanted_stays b after is said.0 c d (wanted_meets b said.0 c (TheChange d) said.1) none)
  where
    by_said : (o : Option Want) → Says after c o → {walk : List ℕ} → Meets after walk c (Wants (TheChange d)) → o ≡ Some (TheChange d)
    by_said None decided {walk} h = absurd (decided walk (TheChange d) (meets_wanted after walk c (TheChange d) h))
    by_said (Some other) said {walk} h =
        let same : Wants other ≡ Wants (TheChange d) = one_end after said.0 walk c (Wants other) (Wants (TheChange d)) (wanted_meets after said.0 c other said.1) tt h tt in
        let e : other ≡ TheChange d = cc in
        ap Some e

-- what is found wanted is, by a walk
pub found_wanted : (b : Branch) (c : ℕ) {E : Type 0} (r : Result (Option LookUp) E) → IfOk r (λ found. option_map want_of found ≡ wanted b c) → IfOk r (λ found. IfSome found (λ w. (walk : List ℕ) × IsWanted b walk c (want_of w)))
found_wanted b c (Ok (Some w)) is = subst (Says b c) (sym is) (wanted_says b c)
found_wanted b c _ is = tt

-- where nothing is found wanted the change is decided
pub found_decided : (b : Branch) (c : ℕ) {E : Type 0} (r : Result (Option LookUp) E) → IfOk r (λ found. option_map want_of found ≡ wanted b c) → IfOk r (λ found. IfNone found (IsDecided b c))
found_decided b c (Ok None) is = subst (Says b c) (sym is) (wanted_says b c)
found_decided b c _ is = tt
