-- Numbers up to 99, by their one or two digits.
use Rattle.std.proofs.Common.{◌≡◌, ℕ, ◌<◌, ◌≤◌, ◌*◌, ◌+◌, ◌-◌, List, [], ◌∷◌, length, Bool, true, false, cond, Option, None, Some, IfSome, refl, sym, ap, ◌∙◌, arith}
use Rattle.std.proofs.lemmas.Bool.Decides.{nat_tests}
use Rattle.std.specs.Prelude.{◌&&◌, nat_le, nat_lt, if◌then◌else◌}
use Rattle.review_names.specs.Numerals.{number_after, number_of, begins_well, ◌>>=◌}
use Rattle.review_expr_spelling.specs.Values.{digits_in}

abbrev is_digit : ℕ → Bool
is_digit d = nat_le 48 d && nat_le d 57

-- the number of one or two digits
abbrev pub short : List ℕ → Option ℕ
short (d ∷ []) = if nat_le 48 d && nat_le d 57 then Some (d - 48) else None
short (d ∷ e ∷ []) = if nat_lt 48 d && nat_le d 57 && nat_le 48 e && nat_le e 57 then Some ((d - 48) * 10 + (e - 48)) else None
short _ = None

pub of_test : {A : Type 0} (b : Bool) (x : Option A) (a : A) → cond b x None ≡ Some a → (b ≡ true) × (x ≡ Some a)
of_test true x a e = (refl, e)
of_test false x a e = absurd (cc)

after_yes : (m c : ℕ) (cs : List ℕ) → is_digit c ≡ true → m * 10 + (c - 48) < 18446744073709551616 → number_after m (c ∷ cs) ≡ number_after (m * 10 + (c - 48)) cs
after_yes m c cs digit low =
    let t : (nat_le 48 c && nat_le c 57 && nat_lt (m * 10 + (c - 48)) 18446744073709551616) ≡ true = grind (arith, nat_tests, digit, low) in
    rw t refl

after_no : (m c : ℕ) (cs : List ℕ) → is_digit c ≡ false → number_after m (c ∷ cs) ≡ None
after_no m c cs digit =
    let t : (nat_le 48 c && nat_le c 57 && nat_lt (m * 10 + (c - 48)) 18446744073709551616) ≡ false = grind (arith, nat_tests, digit) in
    rw t refl

after_next : (m c n : ℕ) (cs : List ℕ) → number_after m (c ∷ cs) ≡ Some n → number_after (m * 10 + (c - 48)) cs ≡ Some n
after_next m c n cs e = (of_test (nat_le 48 c && nat_le c 57 && nat_lt (m * 10 + (c - 48)) 18446744073709551616) (number_after (m * 10 + (c - 48)) cs) n e).1

after_ge : (m n : ℕ) (cs : List ℕ) → number_after m cs ≡ Some n → m ≤ n
after_ge m n [] e = let same : m ≡ n = cc in omega arith
after_ge m n (c ∷ cs) e =
    let next = m * 10 + (c - 48) in
    let more = after_ge next n cs (after_next m c n cs e) in
    omega arith

abbrev pub up_to_99 : Option ℕ → Option ℕ
up_to_99 o = o >>= (λ n. if nat_le n 99 then Some n else None)

pub up_some : (n : ℕ) → n ≤ 99 → up_to_99 (Some n) ≡ Some n
up_some n h = let t : nat_le n 99 ≡ true = grind (arith, nat_tests, h) in rw t refl

up_big : (o : Option ℕ) → ((n : ℕ) → o ≡ Some n → 100 ≤ n) → up_to_99 o ≡ None
up_big None h = refl
up_big (Some n) h = let big = h n refl in let t : nat_le n 99 ≡ false = grind (arith, nat_tests, big) in rw t refl

one_by : (b : Bool) (d : ℕ) → is_digit d ≡ b → digits_in (d ∷ []) ≡ cond b (Some (d - 48)) None
unfolding digits_in number_of
one_by true d digit =
    let low : 0 * 10 + (d - 48) < 18446744073709551616 = grind (arith, nat_tests, digit) in
    let small : 0 * 10 + (d - 48) ≤ 99 = grind (arith, nat_tests, digit) in
    let e : 0 * 10 + (d - 48) ≡ d - 48 = omega arith in
    ap up_to_99 (after_yes 0 d [] digit low) ∙ up_some _ small ∙ ap Some e
one_by false d digit = ap up_to_99 (after_no 0 d [] digit)

abbrev after_well : Bool → List ℕ → Option ℕ
after_well well cs = up_to_99 (if well then number_after 0 cs else None)

well_of : (d e : ℕ) (cs : List ℕ) → begins_well (d ∷ e ∷ cs) ≡ nat_lt 48 d
well_of d e cs = let long : 1 < length (d ∷ e ∷ cs) = omega arith in grind (arith, nat_tests, long)

two_by : (b x y : Bool) (d e : ℕ) → nat_lt 48 d ≡ b → is_digit d ≡ x → is_digit e ≡ y → digits_in (d ∷ e ∷ []) ≡ cond (b && x && y) (Some ((d - 48) * 10 + (e - 48))) None
unfolding digits_in number_of
two_by false x y d e high one two = ap (λ b. after_well b (d ∷ e ∷ [])) (well_of d e [] ∙ high)
two_by true false y d e high one two = ap (λ b. after_well b (d ∷ e ∷ [])) (well_of d e [] ∙ high) ∙ ap up_to_99 (after_no 0 d (e ∷ []) one)
two_by true true false d e high one two =
    let low : 0 * 10 + (d - 48) < 18446744073709551616 = grind (arith, nat_tests, one) in
    ap (λ b. after_well b (d ∷ e ∷ [])) (well_of d e [] ∙ high)
    ∙ ap up_to_99 (after_yes 0 d (e ∷ []) one low ∙ after_no (0 * 10 + (d - 48)) e [] two)
two_by true true true d e high one two =
    let ten : d ≤ 57 = grind (arith, nat_tests, one) in
    let unit : e ≤ 57 = grind (arith, nat_tests, two) in
    let low : 0 * 10 + (d - 48) < 18446744073709551616 = omega arith in
    let lower : (0 * 10 + (d - 48)) * 10 + (e - 48) < 18446744073709551616 = omega arith in
    let small : (0 * 10 + (d - 48)) * 10 + (e - 48) ≤ 99 = omega arith in
    let same : (0 * 10 + (d - 48)) * 10 + (e - 48) ≡ (d - 48) * 10 + (e - 48) = omega arith in
    ap (λ b. after_well b (d ∷ e ∷ [])) (well_of d e [] ∙ high)
    ∙ ap up_to_99 (after_yes 0 d (e ∷ []) one low ∙ after_yes (0 * 10 + (d - 48)) e [] two lower) ∙ up_some _ small ∙ ap Some same

two_test : (d e : ℕ) → (nat_lt 48 d && is_digit d && is_digit e) ≡ (nat_lt 48 d && nat_le d 57 && nat_le 48 e && nat_le e 57)
two_test d e = grind (arith, nat_tests)

-- three digits, of which the first is not zero
three_ge : (n d e f : ℕ) (cs : List ℕ) → 48 < d → number_after 0 (d ∷ e ∷ f ∷ cs) ≡ Some n → 100 ≤ n
three_ge n d e f cs high read =
    let one = 0 * 10 + (d - 48) in
    let two = one * 10 + (e - 48) in
    let more : two * 10 + (f - 48) ≤ n = after_ge (two * 10 + (f - 48)) n cs (after_next two f n cs (after_next one e n (f ∷ cs) (after_next 0 d n (e ∷ f ∷ cs) read))) in
    omega arith

three : (n d e f : ℕ) (cs : List ℕ) → number_of (d ∷ e ∷ f ∷ cs) ≡ Some n → 100 ≤ n
unfolding number_of
three n d e f cs read =
    let well = of_test (begins_well (d ∷ e ∷ f ∷ cs)) _ n read in
    let test = sym (well_of d e (f ∷ cs)) ∙ well.0 in
    let high : 48 < d = grind (arith, nat_tests, test) in
    three_ge n d e f cs high well.1

no_digits : number_of [] ≡ None
unfolding number_of
no_digits = refl

pub digits_short : (cs : List ℕ) → digits_in cs ≡ short cs
unfolding digits_in
digits_short [] = ap up_to_99 no_digits
digits_short (d ∷ []) = one_by _ d refl
digits_short (d ∷ e ∷ []) = two_by _ _ _ d e refl refl refl ∙ ap (λ b. cond b (Some ((d - 48) * 10 + (e - 48))) None) (two_test d e)
digits_short (d ∷ e ∷ f ∷ cs) = up_big (number_of (d ∷ e ∷ f ∷ cs)) (λ n. three n d e f cs)

small_by : (b : Bool) (n : ℕ) → (b ≡ true → n ≤ 99) → IfSome (cond b (Some n) None) (λ m. m ≤ 99)
small_by true n h = h refl
small_by false n h = tt

pub short_small : (cs : List ℕ) → IfSome (short cs) (λ n. n ≤ 99)
short_small (d ∷ []) = small_by (nat_le 48 d && nat_le d 57) (d - 48) (λ t. grind (arith, nat_tests, t))
short_small (d ∷ e ∷ []) = small_by (nat_lt 48 d && nat_le d 57 && nat_le 48 e && nat_le e 57) ((d - 48) * 10 + (e - 48)) (λ t. grind (arith, nat_tests, t))
short_small _ = tt

pub long_none : (cs : List ℕ) → 3 ≤ length cs → digits_in cs ≡ None
long_none (d ∷ e ∷ f ∷ cs) h = digits_short (d ∷ e ∷ f ∷ cs)
long_none _ h = absurd (omega arith)

pub empty_none : (cs : List ℕ) → length cs < 1 → digits_in cs ≡ None
empty_none [] h = digits_short []
empty_none (c ∷ cs) h = absurd (omega arith)

-- what is read is at most 99
pub digits_small : (cs : List ℕ) → IfSome (digits_in cs) (λ n. n ≤ 99)
digits_small cs = rw (digits_short cs) (short_small cs)
