-- The range that is granted to an account on a label ends in values of the label.
use Rattle.std.proofs.Common.{◌≡◌, ℕ, ℤ, pos, Bool, true, false, List, [], ◌∷◌, map, Option, Some, None, cond, IfSome, filter, find, fold, int_lt}
use Rattle.std.{proofs.lemmas.Bool.cond_both, proofs.lemmas.Bool.and_parts, specs.Int.int_min, specs.Int.int_max}
use Rattle.{std.specs.List.list_all, std.specs.Option.option_map_or, review_expr.specs.declared.expr.Expr.Expr}
use Rattle.review_file_rules.specs.Rights.{least_of, greatest_of}
use Rattle.review_file_rules.specs.Sound.{is_value, is_run, is_range, is_sound_label}
use Rattle.review_file_rules.specs.{View.LabelView, declared.parts.Grant.Grant}

module _ (values : List (ℤ × List ℕ)) where
  either : (b : Bool) (v w : ℤ) → is_value values v ≡ true → is_value values w ≡ true → is_value values (cond b v w) ≡ true
  either true v w h g = h
  either false v w h g = g

  lowest_by : (b : Bool) (g : Grant) (gs : List Grant) (a : ℤ) → is_value values (fold int_min a (map (λ k. k.least) gs)) ≡ true →
      is_value values (fold int_min (int_min a g.least) (map (λ k. k.least) gs)) ≡ true → is_value values (fold int_min a (map (λ k. k.least) (cond b (g ∷ gs) gs))) ≡ true
  lowest_by true g gs a out kept = kept
  lowest_by false g gs a out kept = out

  lowest : (keep : Grant → Bool) (gs : List Grant) (a : ℤ) → is_value values a ≡ true → list_all (is_range values) gs ≡ true →
      is_value values (fold int_min a (map (λ g. g.least) (filter keep gs))) ≡ true
  lowest keep [] a h all = h
  lowest keep (g ∷ gs) a h all =
      let rest = (and_parts (is_range values g) (list_all (is_range values) gs) all).1 in
      let here : is_value values g.least ≡ true = (and_parts _ _ (and_parts (is_range values g) (list_all (is_range values) gs) all).0).0 in
      lowest_by (keep g) g (filter keep gs) a (lowest keep gs a h rest) (lowest keep gs (int_min a g.least) (either (int_lt g.least a) g.least a here h) rest)

  highest_by : (b : Bool) (g : Grant) (gs : List Grant) (a : ℤ) → is_value values (fold int_max a (map (λ k. k.greatest) gs)) ≡ true →
      is_value values (fold int_max (int_max a g.greatest) (map (λ k. k.greatest) gs)) ≡ true → is_value values (fold int_max a (map (λ k. k.greatest) (cond b (g ∷ gs) gs))) ≡ true
  highest_by true g gs a out kept = kept
  highest_by false g gs a out kept = out

  highest : (keep : Grant → Bool) (gs : List Grant) (a : ℤ) → is_value values a ≡ true → list_all (is_range values) gs ≡ true →
      is_value values (fold int_max a (map (λ g. g.greatest) (filter keep gs))) ≡ true
  highest keep [] a h all = h
  highest keep (g ∷ gs) a h all =
      let rest = (and_parts (is_range values g) (list_all (is_range values) gs) all).1 in
      let here : is_value values g.greatest ≡ true = (and_parts _ _ (and_parts _ _ (and_parts (is_range values g) (list_all (is_range values) gs) all).0).1).0 in
      highest_by (keep g) g (filter keep gs) a (highest keep gs a h rest) (highest keep gs (int_max a g.greatest) (either (int_lt g.greatest a) a g.greatest h here) rest)

-- a label that is found is sound where all are
found : (is_it : LabelView Expr → Bool) (ls : List (LabelView Expr)) → list_all is_sound_label ls ≡ true → IfSome (find is_it ls) (λ l. is_sound_label l ≡ true)
found is_it [] h = tt
found is_it (l ∷ ls) h =
    let each = and_parts (is_sound_label l) (list_all is_sound_label ls) h in
    cond_both (is_it l) (Some l) (find is_it ls) (λ o. IfSome o (λ k. is_sound_label k ≡ true)) (λ t. each.0) (λ f. found is_it ls each.1)

ends : (o : Option (LabelView Expr)) (keep : Grant → Bool) → IfSome o (λ l. is_sound_label l ≡ true) →
    IfSome o (λ l. (is_value l.values (least_of (filter keep (option_map_or (λ k. k.grants) o []))) ≡ true) × (is_value l.values (greatest_of (filter keep (option_map_or (λ k. k.grants) o []))) ≡ true))
ends None keep h = tt
ends (Some l) keep h =
    let zero_there = (and_parts _ _ (and_parts _ _ (and_parts (is_run l.values) _ h).0).1).0 in
    let grants = (and_parts (is_run l.values) _ h).1 in
    (lowest l.values keep l.grants (pos 0) zero_there grants, highest l.values keep l.grants (pos 0) zero_there grants)

-- the range on a label of a file whose labels are sound
pub range_ends : (is_it : LabelView Expr → Bool) (ls : List (LabelView Expr)) (keep : Grant → Bool) → list_all is_sound_label ls ≡ true →
    IfSome (find is_it ls) (λ l. (is_value l.values (least_of (filter keep (option_map_or (λ k. k.grants) (find is_it ls) []))) ≡ true)
    × (is_value l.values (greatest_of (filter keep (option_map_or (λ k. k.grants) (find is_it ls) []))) ≡ true))
range_ends is_it ls keep h = ends (find is_it ls) keep (found is_it ls h)
