-- One answer to a submit.
use Rattle.std.proofs.Common.{◌≡◌, ◌∙◌, ℕ, List, [], ◌∷◌, Option, Some, None, sym, ap, subst, inl, inr, MatchOption}
use Rattle.review_chain.proofs.Walking.{one_walk, one_end, chain_meets, bad_meets}
use Rattle.review_chain.specs.Steps.{TheBase, Bad}
use Rattle.review_machine_rows.proofs.Common.{AreStanding, Branch, ChainFault, Change, Entry, IsFirstUnsatisfied, Reading, Refusal, Refused, Reply, Setting, ShownRequirement, unsatisfied_in}
use Rattle.review_machine_rows.specs.Submits.{HasBadLink, HasChain, IsOf, IsSubmitAnswer, branch_after, checked_reply, judged_after, refusal_of}

-- Requirements stand in one way for a change, as the law of statuses has it.
abbrev pub OneStanding : Type 0
OneStanding = (s : Setting) (c : Change) (a b : List ShownRequirement) → AreStanding s c a → AreStanding s c b → a ≡ b

one_named : (f g : ChainFault) (r s : Refusal) → f ≡ g → refusal_of f ≡ Some r → refusal_of g ≡ Some s → r ≡ s
one_named f g r s same a b = let e : Some r ≡ Some s = sym a ∙ (ap refusal_of same ∙ b) in cc

-- one bad link
one_bad : (b : Branch) (n : ℕ) (r s : Reply) → HasBadLink b n r → HasBadLink b n s → r ≡ s
one_bad b n r s x y =
    let e : Bad x.fault ≡ Bad y.fault = one_end b x.walk y.walk n (Bad x.fault) (Bad y.fault) (bad_meets b x.walk n x.fault x.bad) tt (bad_meets b y.walk n y.fault y.bad) tt in
    let same : x.fault ≡ y.fault = cc in
    x.reply_is ∙ (ap Refused (one_named x.fault y.fault x.refusal y.refusal same x.named y.named) ∙ sym y.reply_is)

-- what is found first from this change on, by its own requirement that is unsatisfied
abbrev IsFound : (ℕ → Option (Setting × Change)) → ℕ → List ℕ → Option (ℕ × List ℕ) → Option (List ℕ) → Type 0
IsFound at n ns found o = MatchOption o (IsFirstUnsatisfied at ns found) (λ requirement. found ≡ Some (n, requirement))

abbrev IsFoundAt : (ℕ → Option (Setting × Change)) → ℕ → List ℕ → Option (ℕ × List ℕ) → Option (Setting × Change) → Type 0
IsFoundAt at n ns found o = MatchOption o ⊥ (λ c. (shown : List ShownRequirement) × AreStanding c.0 c.1 shown × IsFound at n ns found (unsatisfied_in shown))

-- one requirement that is found first
one_found : OneStanding → (at : ℕ → Option (Setting × Change)) (chain : List ℕ) (a b : Option (ℕ × List ℕ)) → IsFirstUnsatisfied at chain a → IsFirstUnsatisfied at chain b → a ≡ b
one_found one at [] a b x y = x ∙ sym y
one_found one at (n ∷ ns) a b x y = of (at n) x y (one_found one at ns a b)
  where
    by : (o : Option (List ℕ)) → IsFound at n ns a o → IsFound at n ns b o → (IsFirstUnsatisfied at ns a → IsFirstUnsatisfied at ns b → a ≡ b) → a ≡ b
    by None x y later = later x y
    by (Some requirement) x y later = x ∙ sym y

    of : (o : Option (Setting × Change)) → IsFoundAt at n ns a o → IsFoundAt at n ns b o → (IsFirstUnsatisfied at ns a → IsFirstUnsatisfied at ns b → a ≡ b) → a ≡ b
    of None x y later = absurd x
    of (Some c) x y later =
        by (unsatisfied_in x.0) x.2 (subst (λ l. IsFound at n ns b (unsatisfied_in l)) (one c.0 c.1 y.0 x.0 y.1 x.1) y.2) later

-- one chain, and what is found of it
one_checked : OneStanding → (reading : Reading) (h : List Entry) (b : Branch) (n : ℕ) (r s : Reply) → HasChain reading h b n r → HasChain reading h b n s → r ≡ s
one_checked one reading h b n r s x y =
    let chain = one_walk b x.chain y.chain n TheBase TheBase (chain_meets b x.chain n x.is_chain) tt (chain_meets b y.chain n y.is_chain) tt in
    let found = one_found one (judged_after reading h) y.chain x.found y.found (subst (λ l. IsFirstUnsatisfied (judged_after reading h) l x.found) chain x.checked) y.checked in
    x.reply_is ∙ ((λ i. checked_reply (chain i) (found i)) ∙ sym y.reply_is)

-- not both a bad link and a chain
never_both : (reading : Reading) (h : List Entry) (b : Branch) (n : ℕ) (r s : Reply) → HasBadLink b n r → HasChain reading h b n s → ⊥
never_both reading h b n r s x y =
    let e : Bad x.fault ≡ TheBase = one_end b x.walk y.chain n (Bad x.fault) TheBase (bad_meets b x.walk n x.fault x.bad) tt (chain_meets b y.chain n y.is_chain) tt in absurd (cc)

-- a submit has one answer
pub one_submit : OneStanding → (reading : Reading) (h : List Entry) (n : ℕ) (o : Option Change) (r s : Reply) → IsOf (λ c. IsSubmitAnswer reading h n c r) o → IsOf (λ c. IsSubmitAnswer reading h n c s) o → r ≡ s
one_submit one reading h n None r s a b = absurd a
one_submit one reading h n (Some c) r s (inl x) (inl y) = one_bad (branch_after reading h c.project c.branch) n r s x y
one_submit one reading h n (Some c) r s (inl x) (inr y) = absurd (never_both reading h (branch_after reading h c.project c.branch) n r s x y)
one_submit one reading h n (Some c) r s (inr x) (inl y) = absurd (never_both reading h (branch_after reading h c.project c.branch) n s r y x)
one_submit one reading h n (Some c) r s (inr x) (inr y) = one_checked one reading h (branch_after reading h c.project c.branch) n r s x y
