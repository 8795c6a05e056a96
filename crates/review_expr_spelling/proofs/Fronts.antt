-- Fronts of texts that are names of labels.
use Rattle.std.proofs.Common.{◌≡◌, ℕ, zero, suc, ◌-◌, ◌<◌, ◌≤◌, ◌==◌, List, [], ◌∷◌, length, take, drop, get_or, Bool, true, false, Option, None, Some, refl, sym, ap, subst, ◌∙◌, arith, add-one}
use Rattle.std.proofs.{Math.Bool.and-false, lemmas.Bool.and_parts, lemmas.Bool.Decides.nat_tests}
use Rattle.std.proofs.lemmas.{List.length-take, List.get_or-take, Str.IsCharBoundary-after_ascii}
use Rattle.std.specs.Char.{is_ascii_alphabetic, is_ascii_alphanumeric}
use Rattle.std.specs.{Prelude.◌&&◌, Prelude.◌||◌, Prelude.nat_le, Str.IsUtf8, Str.IsCharBoundary}
use Rattle.review_names.specs.Forms.{is_label, goes_on}
use Rattle.review_expr_spelling.specs.Labels.{longest_label}

pub goes_ascii : (letter : Bool) (s : List ℕ) → goes_on letter s ≡ true → (i : ℕ) → i < length s → get_or s i 0 < 128
goes_ascii letter [] e i lt = absurd (omega arith)
goes_ascii true (c ∷ cs) e zero lt = let t : is_ascii_alphabetic c ≡ true = (and_parts (is_ascii_alphabetic c) (goes_on false cs) e).0 in grind (arith, nat_tests, t)
goes_ascii true (c ∷ cs) e (suc i) lt = goes_ascii false cs (and_parts (is_ascii_alphabetic c) (goes_on false cs) e).1 i (omega arith)
goes_ascii false (c ∷ cs) e zero lt = let t : is_ascii_alphanumeric c || c == 45 ≡ true = (and_parts (is_ascii_alphanumeric c || c == 45) (goes_on (c == 45) cs) e).0 in grind (arith, nat_tests, t)
goes_ascii false (c ∷ cs) e (suc i) lt = goes_ascii (c == 45) cs (and_parts (is_ascii_alphanumeric c || c == 45) (goes_on (c == 45) cs) e).1 i (omega arith)

pub label_goes : (s : List ℕ) → is_label s ≡ true → goes_on true s ≡ true
unfolding is_label
label_goes s e = (and_parts (nat_le (length s) 40) (goes_on true s) e).1

-- a front that is a label's name ends where the text may be cut
front_byte : (text : List ℕ) (n : ℕ) → suc n ≤ length text → is_label (take (suc n) text) ≡ true → get_or text n 0 < 128
front_byte text n fits e =
    let within : n < length (take (suc n) text) = omega (arith, length-take (suc n) text) in
    let same : get_or (take (suc n) text) n 0 ≡ get_or text n 0 = get_or-take (suc n) text n 0 (omega arith) in
    subst (λ b. b < 128) same (goes_ascii true (take (suc n) text) (label_goes _ e) n within)

front_end : (text : List ℕ) (n : ℕ) → IsUtf8 text → suc n ≤ length text → is_label (take (suc n) text) ≡ true → IsCharBoundary text (suc n)
front_end text n utf8 fits e =
    subst (IsCharBoundary text) (add-one n) (IsCharBoundary-after_ascii text n utf8 (omega arith) (front_byte text n fits e))

pub skip : (n : ℕ) (text : List ℕ) → (nat_le (suc n) (length text) && is_label (take (suc n) text)) ≡ false → longest_label (suc n) text ≡ longest_label n text
unfolding longest_label
skip n text e = rw e refl

-- the front of this length is no label's name
pub passed_over : (n : ℕ) (text : List ℕ) → 0 < n → is_label (take n text) ≡ false → longest_label n text ≡ longest_label (n - 1) text
passed_over zero text some e = absurd (omega arith)
passed_over (suc n) text some e =
    let less : suc n - 1 ≡ n = omega arith in
    skip n text (ap (λ b. nat_le (suc n) (length text) && b) e ∙ and-false _) ∙ ap (λ m. longest_label m text) (sym less)

no_front : (b x : Bool) → (b ≡ true → x ≡ true → ⊥) → b && x ≡ false
no_front true true h = absurd (h refl refl)
no_front true false h = refl
no_front false x h = refl

-- the text may not be cut there
pub uncut_over : (n : ℕ) (text : List ℕ) → 0 < n → IsUtf8 text → (IsCharBoundary text n → ⊥) → longest_label n text ≡ longest_label (n - 1) text
uncut_over zero text some utf8 e = absurd (omega arith)
uncut_over (suc n) text some utf8 e =
    let less : suc n - 1 ≡ n = omega arith in
    skip n text (no_front (nat_le (suc n) (length text)) (is_label (take (suc n) text)) (λ fits label. e (front_end text n utf8 (grind (arith, nat_tests, fits)) label)))
    ∙ ap (λ m. longest_label m text) (sym less)

pub taken_front : (n : ℕ) (text : List ℕ) → 0 < n → n ≤ length text → is_label (take n text) ≡ true → longest_label n text ≡ Some (take n text, drop n text)
unfolding longest_label
taken_front zero text some fits e = absurd (omega arith)
taken_front (suc n) text some fits e = let t : nat_le (suc n) (length text) ≡ true = grind (arith, nat_tests, fits) in rw (t, e) refl

pub none_left : (n : ℕ) (text : List ℕ) (x : Option (List ℕ × List ℕ)) → n ≤ 0 → longest_label n text ≡ x → ◌≡◌ {A = Option (List ℕ × List ℕ)} None x
unfolding longest_label
none_left zero text x h e = e
none_left (suc n) text x h e = absurd (omega arith)
