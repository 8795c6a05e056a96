use Rattle.std.proofs.Common.{◌≡◌, ◌∙◌, ap, refl, ℕ, zero, suc, ◌-◌, List, [], ◌∷◌, drop, map, length, length-drop, arith, take_all}
use Rattle.review_words_texts.proofs.reading.fields_from.Goals as goal

map_dropped : {A B : Type 0} (f : A → B) (n : ℕ) (xs : List A) → map f (drop n xs) ≡ drop n (map f xs)
map_dropped f zero xs = refl
map_dropped f (suc n) [] = refl
map_dropped f (suc n) (x ∷ xs) = map_dropped f n xs

pub returns-then-first-fields : goal.returns-then-first-fields
returns-then-first-fields c =
    let xs = c.args.fields.now in
    let n = c.args.first in
    let e = length-drop n xs in
    ap (map (λ f. f.now)) (take_all (length xs - n) (drop n xs) (omega (arith, e))) ∙ map_dropped (λ f. f.now) n xs
