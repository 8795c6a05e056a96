-- What rows know, and what they learn.
use Rattle.std.proofs.Common.{◌≡◌, ℕ, List, [], ◌∷◌, Option, Some, None, inl, inr, refl, sym, ap, ◌∙◌, option_map, ◌+◌, ◌<◌, ◌++◌, length, get_or, take, subst, ⊎_elim, arith, All, Contains, is_some, nat_cmp, ◌⊎◌}
use Rattle.std.proofs.lemmas.List.Elements.{All-more, All-nil, All-weaker, Contains-append_left, Contains-push}
use Rattle.review_machine_rows.proofs.Common.{BaseRow, Rows, Tables, Want, row_in, rows_of, same_Some, slice_cmp, take_more}
use Rattle.review_machine_rows.specs.Known.{known, known_by, group_of, held, meaning, want_cmp, Found, IsFound, IsKnown, AreAsked, AgreesBeside, Learns, LearnsFound}

-- rows without entries know nothing
pub nothing_known : (rows : Rows) → rows.groups ≡ [] → rows.found ≡ [] → (w : Want) → known rows w ≡ None
nothing_known rows groups found w = by (group_of w)
  where
    by : (group : Option (List ℕ)) → known_by rows w group ≡ None
    by (Some group) = ap (λ t. option_map held (row_in (slice_cmp nat_cmp) (rows_of t) group)) groups
    by None = ap (λ t. option_map meaning (row_in want_cmp (rows_of t) w)) found

-- ==== what rows learn, look-up by look-up

-- one more element, where the fact on the others becomes another
pub All-step : {X : Type 0} (P Q : X → Type 0) (xs : List X) (i : ℕ) (x : X) → i < length xs → x ≡ get_or xs i x → ((y : X) → P y → Q y) → All P (take i xs) → Q x → All Q (take (i + 1) xs)
All-step P Q xs i x below is weaker before here = All-more Q xs i x below (All-weaker P Q weaker (take i xs) before) (subst Q is here)

-- no look-up was asked
pub none_asked : (rows : Rows) → AreAsked [] rows rows
none_asked rows = record { all = All-nil (IsKnown rows); others = λ w. inl refl }

known_still : (w : Want) (f : Found) (old new : Rows) → Learns w f old new → (x : Want) → IsKnown old x → IsKnown new x
known_still w f old new learns x there = ⊎_elim (λ same. ap is_some same ∙ there) (λ now. ap is_some now.1) (learns.others x)

-- one more look-up was asked
pub asked_more : (wants : List Want) (i : ℕ) (w : Want) (f : Found) (first old new : Rows) → i < length wants → w ≡ get_or wants i w → AreAsked (take i wants) first old → Learns w f old new → AreAsked (take (i + 1) wants) first new
asked_more wants i w f first old new below is asked learns = record {
  all = All-step (IsKnown old) (IsKnown new) wants i w below is (known_still w f old new learns) asked.all (ap is_some learns.here);
  others = λ x. other x (learns.others x);
}
  where
    grown : (x : Want) → Contains (take i wants ++ w ∷ []) x → Contains (take (i + 1) wants) x
    grown x within = subst (λ ws. Contains ws x) (ap (λ y. take i wants ++ y ∷ []) is ∙ sym (take_more wants i w below)) within

    other : (x : Want) → (known new x ≡ known old x) ⊎ ((x ≡ w) × (known new x ≡ Some f)) → (known new x ≡ known first x) ⊎ Contains (take (i + 1) wants) x
    other x (inl same) = ⊎_elim (λ was. inl (same ∙ was)) (λ within. inr (grown x (Contains-append_left (take i wants) (w ∷ []) x within))) (asked.others x)
    other x (inr now) = inr (grown x (subst (Contains (take i wants ++ w ∷ [])) (sym now.0) (Contains-push (take i wants) w)))

pub looked_asked : (t : Tables) (wants : List Want) (i : ℕ) (w : Want) (first old new : Rows) → i < length wants → w ≡ get_or wants i w → AreAsked (take i wants) first old → LearnsFound t w old new → AreAsked (take (i + 1) wants) first new
looked_asked t wants i w first old new below is asked looks = asked_more wants i w looks.0 first old new below is asked looks.2

-- what rows know beside the first ones is so still, where what one look-up found is
pub one_agrees : (t : Tables) (w : Want) (first old new : Rows) → LearnsFound t w old new → AgreesBeside t first old → AgreesBeside t first new
one_agrees t w first old new looks agree x g there = ⊎_elim
    (λ same. agree x g (sym same ∙ there))
    (λ now. let found : looks.0 ≡ g = same_Some looks.0 g (sym now.1 ∙ there) in
    inr (subst (λ y. IsFound t y g) (sym now.0) (subst (IsFound t w) found looks.1)))
    (looks.2.others x)

-- a base that stands in two rows alike is one
pub based_from : (o p : Option (List ℕ)) → option_map BaseRow o ≡ option_map BaseRow p → o ≡ p
based_from None None e = refl
based_from None (Some y) e = absurd (cc)
based_from (Some x) None e = absurd (cc)
based_from (Some x) (Some y) e = let same : x ≡ y = cc in ap Some same
