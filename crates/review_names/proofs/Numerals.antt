-- Numerals read back.
use Rattle.std.proofs.Common.{◌≡◌, ◌≢◌, ℕ, zero, suc, ◌+◌, ◌*◌, ◌-◌, ◌/◌, ◌%◌, ◌<◌, ◌≤◌, ◌^◌, List, [], ◌∷◌, ◌++◌, append-nil, append_assoc, length, map, Option, Some, None, Bool, true, false, cond, refl, sym, ap, ◌∙◌, subst, arith, get_or, ◌↔◌}
use Rattle.std.proofs.lemmas.{Bool.Decides.nat_tests, Fmt.decimal_digit, Fmt.decimal-digits_of}
use Rattle.std.proofs.lemmas.Int.Digits.{digits_of_step, length-digits_of_step, all_below_base_digits_of, number_digits_of, number_after_ge, first_digits_of}
use Rattle.std.{proofs.lemmas.List.map-append, specs.Fmt.decimal}
use Rattle.std.specs.Int.Digits.{digits_of, number_from_digits, number_from_digits_after}
use Rattle.std.specs.{List.AllByRecursion, Prelude.nat_le, Prelude.nat_lt, Prelude.◌&&◌}
use Rattle.review_names.specs.Numerals.{shown_digits, numeral, number_after, number_of, begins_well}

-- no colon
abbrev pub Plain : List ℕ → Type 0
Plain [] = Unit {0}
Plain (c ∷ cs) = (c ≢ 58) × Plain cs

plain_map : (ds : List ℕ) → AllByRecursion (λ d. d < 10) ds → Plain (map (λ x. 48 + x) ds)
plain_map [] h = tt
plain_map (d ∷ ds) h = (let low = h.0 in λ e. absurd (omega arith), plain_map ds h.1)

plain_digits : (ds : List ℕ) → AllByRecursion (λ d. d < 10) ds → Plain (shown_digits ds)
plain_digits [] h = (λ e. absurd (omega arith), tt)
plain_digits (d ∷ ds) h = plain_map (d ∷ ds) h

pub plain_numeral : (n : ℕ) → Plain (numeral n)
unfolding numeral
plain_numeral n = plain_digits (digits_of 10 n) (all_below_base_digits_of 10 n (omega arith))

-- the number that digits show, whatever its size
abbrev pub value : List ℕ → ℕ
value cs = number_from_digits 10 (map (λ c. c - 48) cs)

unshow : (ds : List ℕ) → map (λ c. c - 48) (map (λ x. 48 + x) ds) ≡ ds
unshow [] = refl
unshow (d ∷ ds) = let head : (48 + d) - 48 ≡ d = omega arith in let tail = unshow ds in λ i. head i ∷ tail i

value_digits : (ds : List ℕ) → value (shown_digits ds) ≡ number_from_digits 10 ds
value_digits [] = refl
value_digits (d ∷ ds) = ap (number_from_digits 10) (unshow (d ∷ ds))

pub value_numeral : (n : ℕ) → value (numeral n) ≡ n
unfolding numeral
value_numeral n = value_digits (digits_of 10 n) ∙ number_digits_of 10 n (omega arith)

pub numeral-injective : (m n : ℕ) → numeral m ≡ numeral n → m ≡ n
numeral-injective m n e = sym (value_numeral m) ∙ ap value e ∙ value_numeral n

-- a numeral is read
after_shown : (ds : List ℕ) → AllByRecursion (λ d. d < 10) ds → (m : ℕ) → number_from_digits_after 10 m ds < 18446744073709551616 → number_after m (map (λ x. 48 + x) ds) ≡ Some (number_from_digits_after 10 m ds)
after_shown [] a m h = refl
after_shown (d ∷ ds) a m h =
    let low = a.0 in
    let big = number_after_ge 10 (m * 10 + d) ds (omega arith) in
    let e : (48 + d) - 48 ≡ d = omega arith in
    let t : (nat_le 48 (48 + d) && nat_le (48 + d) 57 && nat_lt (m * 10 + ((48 + d) - 48)) 18446744073709551616) ≡ true = grind (arith, nat_tests, low, big, h, e) in
    ap (λ b. cond b (number_after (m * 10 + ((48 + d) - 48)) (map (λ x. 48 + x) ds)) None) t
    ∙ (ap (λ k. number_after (m * 10 + k) (map (λ x. 48 + x) ds)) e ∙ after_shown ds a.1 (m * 10 + d) h)

digits_back : (ds : List ℕ) → AllByRecursion (λ d. d < 10) ds → number_from_digits 10 ds < 18446744073709551616 → number_after 0 (shown_digits ds) ≡ Some (number_from_digits 10 ds)
digits_back [] a h = refl
digits_back (d ∷ ds) a h = after_shown (d ∷ ds) a 0 h

digits_begin_well : (n : ℕ) (ds : List ℕ) → ds ≡ digits_of 10 n → begins_well (shown_digits ds) ≡ true
digits_begin_well zero (d ∷ x ∷ ds) e = absurd (cc)
digits_begin_well (suc n) (d ∷ x ∷ ds) e =
    let high : 0 < d = subst (λ l. 0 < get_or l 0 0) (sym e) (first_digits_of 10 (suc n) (omega arith) (omega arith)) in
    grind (arith, nat_tests, high)
digits_begin_well n _ e = refl

pub number_back : (n : ℕ) → n < 18446744073709551616 → number_of (numeral n) ≡ Some n
unfolding numeral number_of
number_back n h =
    let e = number_digits_of 10 n (omega arith) in
    let well = digits_begin_well n (digits_of 10 n) refl in
    ap (λ b. cond b (number_after 0 (shown_digits (digits_of 10 n))) None) well
    ∙ (digits_back (digits_of 10 n) (all_below_base_digits_of 10 n (omega arith)) (omega (arith, e, h)) ∙ ap Some e)

-- as `write!` prints it
shown_some : (ds : List ℕ) → 0 < length ds → map (λ d. 48 + d) ds ≡ shown_digits ds
shown_some [] h = absurd (omega arith)
shown_some (d ∷ ds) h = refl

digits_shown : (n : ℕ) → 0 < n → map (λ d. 48 + d) (digits_of 10 n) ≡ numeral n
unfolding numeral
digits_shown n h = shown_some (digits_of 10 n) (let e = length-digits_of_step 10 n (omega arith) h in omega arith)

pub decimal_numeral : (n : ℕ) → n < 2 ^ 64 → decimal n ≡ numeral n
unfolding numeral
decimal_numeral zero h = decimal_digit 0 (omega arith)
decimal_numeral (suc n) h = decimal-digits_of (suc n) (omega arith) h ∙ digits_shown (suc n) (omega arith)

-- what is read as a number is its numeral
one_digit : (d : ℕ) → d < 10 → numeral d ≡ (48 + d) ∷ []
one_digit d h = sym (decimal_numeral d (omega arith)) ∙ decimal_digit d h

more_digits : (m d : ℕ) → 0 < m → d < 10 → numeral (m * 10 + d) ≡ numeral m ++ (48 + d) ∷ []
more_digits m d h low =
    let front : (m * 10 + d) / 10 ≡ m = omega arith in
    let last : (m * 10 + d) % 10 ≡ d = omega arith in
    sym (digits_shown (m * 10 + d) (omega arith))
    ∙ (ap (map (λ x. 48 + x)) (digits_of_step 10 (m * 10 + d) (omega arith) (omega arith) ∙ (λ i. digits_of 10 (front i) ++ last i ∷ []))
    ∙ (map-append (λ x. 48 + x) (digits_of 10 m) (d ∷ []) ∙ ap (λ l. l ++ (48 + d) ∷ []) (digits_shown m h)))

of_test : {A : Type 0} (b : Bool) (x : Option A) (a : A) → cond b x None ≡ Some a → (b ≡ true) × (x ≡ Some a)
of_test true x a e = (refl, e)
of_test false x a e = absurd (cc)

digit_of : (c m : ℕ) → (nat_le 48 c && nat_le c 57 && nat_lt m 18446744073709551616) ≡ true → (48 ≤ c) × (c ≤ 57)
digit_of c m e = (grind (arith, nat_tests, e), grind (arith, nat_tests, e))

after_numeral : (m n : ℕ) (cs : List ℕ) → 0 < m → number_after m cs ≡ Some n → numeral n ≡ numeral m ++ cs
after_numeral m n [] h e = let same : m ≡ n = cc in ap numeral (sym same) ∙ sym (append-nil (numeral m))
after_numeral m n (c ∷ cs) h e =
    let next = m * 10 + (c - 48) in
    let read = of_test (nat_le 48 c && nat_le c 57 && nat_lt next 18446744073709551616) (number_after next cs) n e in
    let digit = digit_of c next read.0 in
    let char : 48 + (c - 48) ≡ c = omega (arith, digit.0) in
    after_numeral next n cs (omega arith) read.1
    ∙ (ap (λ l. l ++ cs) (more_digits m (c - 48) h (omega (arith, digit.0, digit.1)) ∙ ap (λ x. numeral m ++ x ∷ []) char)
    ∙ append_assoc (numeral m) (c ∷ []) cs)

first_then : (n c : ℕ) (cs : List ℕ) → begins_well (c ∷ cs) ≡ true → numeral (c - 48) ≡ c ∷ [] → number_after (c - 48) cs ≡ Some n → numeral n ≡ c ∷ cs
first_then n c [] well shown e = let same : c - 48 ≡ n = cc in ap numeral (sym same) ∙ shown
first_then n c (x ∷ cs) well shown e =
    let high : 0 < c - 48 = grind (arith, nat_tests, well) in
    after_numeral (c - 48) n (x ∷ cs) high e ∙ ap (λ l. l ++ x ∷ cs) shown

first_numeral : (n c : ℕ) (cs : List ℕ) → begins_well (c ∷ cs) ≡ true → number_after 0 (c ∷ cs) ≡ Some n → numeral n ≡ c ∷ cs
first_numeral n c cs well e =
    let next = 0 * 10 + (c - 48) in
    let read = of_test (nat_le 48 c && nat_le c 57 && nat_lt next 18446744073709551616) (number_after next cs) n e in
    let digit = digit_of c next read.0 in
    let char : 48 + (c - 48) ≡ c = omega (arith, digit.0) in
    let shown : numeral (c - 48) ≡ c ∷ [] = one_digit (c - 48) (omega (arith, digit.0, digit.1)) ∙ ap (λ x. x ∷ []) char in
    let zero : next ≡ c - 48 = omega arith in
    first_then n c cs well shown (ap (λ m. number_after m cs) (sym zero) ∙ read.1)

pub number_shown : (n : ℕ) (cs : List ℕ) → number_of cs ≡ Some n → numeral n ≡ cs
unfolding number_of
number_shown n [] e = absurd (cc)
number_shown n (c ∷ cs) e = let read = of_test (begins_well (c ∷ cs)) (number_after 0 (c ∷ cs)) n e in first_numeral n c cs read.0 read.1

-- a number that is read is below 2^64
low_of : (c m : ℕ) → (nat_le 48 c && nat_le c 57 && nat_lt m 18446744073709551616) ≡ true → m < 18446744073709551616
low_of c m e = grind (arith, nat_tests, e)

low_after : (m n : ℕ) (cs : List ℕ) → m < 18446744073709551616 → number_after m cs ≡ Some n → n < 18446744073709551616
low_after m n [] low e = let same : m ≡ n = cc in subst (λ x. x < 18446744073709551616) same low
low_after m n (c ∷ cs) low e =
    let next = m * 10 + (c - 48) in
    let read = of_test (nat_le 48 c && nat_le c 57 && nat_lt next 18446744073709551616) (number_after next cs) n e in
    low_after next n cs (low_of c next read.0) read.1

number_low : (n : ℕ) (cs : List ℕ) → number_of cs ≡ Some n → n < 18446744073709551616
unfolding number_of
number_low n cs e = let read = of_test (begins_well cs) (number_after 0 cs) n e in low_after 0 n cs (omega arith) read.1

pub number_told : (n : ℕ) (cs : List ℕ) → (number_of cs ≡ Some n) ↔ ((n < 18446744073709551616) × (numeral n ≡ cs))
number_told n cs = (λ e. (number_low n cs e, number_shown n cs e), λ h. subst (λ text. number_of text ≡ Some n) h.1 (number_back n h.0))
