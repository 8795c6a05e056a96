-- Bytes and segments, one after the other.
use Rattle.std.proofs.Common.{◌++◌, ℕ, List, [], Bool, false, Option, true≢false, sym, ◌≡◌, ◌+◌, ◌≤◌, ◌==◌, take, drop, length, subst, arith, take-append-drop, if◌then◌else◌, zero, suc, ◌∷◌, refl, slice_index_or, slice_get, unwrap_or, Bor, ◌-◌, ◌*◌, true, min, Some, None, option_map, ap}
use Rattle.std.proofs.{KnownBytes.Consumes-nil, KnownBytes.Consumes-trans, KnownBytes.Appends-trans, Math.Seq.take-add}
use Rattle.std.{proofs.lemmas.Bool.Decides.nat_tests, specs.Char.is_ascii_digit, specs.Io.KnownBytes.Appends}
use Rattle.review_http_requests.specs.{Bytes.Gave, Bytes.IsFirstPart, Counts.one_more, Heads.digits_after, Heads.most}

-- ==== what reads gave, one after the other

pub gave_none : (a : Option (List ℕ)) → Gave a a [] false
gave_none a = record { gives = Consumes-nil a; end = λ e. absurd (true≢false (sym e)) }

pub gave_more : (a b c : Option (List ℕ)) (bs piece : List ℕ) (e end : Bool) → Gave a b bs e → Gave b c piece end → Gave a c (bs ++ piece) end
gave_more a b c bs piece e end x y = record { gives = Consumes-trans a b c bs piece x.gives y.gives; end = y.end }

-- ==== bytes that were written in two steps

pub wrote_more : (x y z : Option (List ℕ)) (a n : ℕ) (bs : List ℕ) → a ≤ length bs → Appends x y (take a bs) → Appends y z (take n (drop a bs)) → Appends x z (take (a + n) bs)
wrote_more x y z a n bs within before more = subst (λ (l : List ℕ). Appends x z l) (sym (take-add a n bs)) (Appends-trans x y z _ _ before more)

pub took_some : (n f : ℕ) → (n ≡ 0 → ⊥) → (if n == 0 then one_more f else f) ≡ f
took_some n f some = grind (arith, nat_tests)

pub first_part : (n : ℕ) (bs : List ℕ) → IsFirstPart (take n bs) bs
first_part n bs = (drop n bs, sym (take-append-drop n bs))

-- ==== what stands at a place of a list

-- what was found at a place is what stands there, or nothing
pub at_or_nothing : (xs : List (List ℕ)) (index : ℕ) (found : Option (Bor (List ℕ))) (none : Bor (List ℕ)) → option_map (λ x. x.now) found ≡ slice_get xs index → none.now ≡ [] → (unwrap_or found none).now ≡ slice_index_or xs index []
at_or_nothing [] index None none e n = n
at_or_nothing [] index (Some y) none e n = cc
at_or_nothing (x ∷ xs) zero None none e n = cc
at_or_nothing (x ∷ xs) zero (Some y) none e n = cc
at_or_nothing (x ∷ xs) (suc index) found none e n = at_or_nothing xs index found none e n

-- ==== digits that are read up to a greatest number

-- a number, or the greatest one that is told
abbrev pub told : Option ℕ → Option ℕ
told n = option_map (λ k. min k most) n

-- two numbers that are told alike are so with more digits behind them
pub told_after : (m n : ℕ) (cs : List ℕ) → min m most ≡ min n most → told (digits_after m cs) ≡ told (digits_after n cs)
told_after m n [] same = ap Some same
told_after m n (c ∷ cs) same = by_digit (told_after (m * 10 + (c - 48)) (n * 10 + (c - 48)) cs (omega (arith, same))) (is_ascii_digit c)
  where
    by_digit : told (digits_after (m * 10 + (c - 48)) cs) ≡ told (digits_after (n * 10 + (c - 48)) cs) → (b : Bool)
        → told (if b then digits_after (m * 10 + (c - 48)) cs else None) ≡ told (if b then digits_after (n * 10 + (c - 48)) cs else None)
    by_digit next true = next
    by_digit next false = refl

-- one digit more
pub told_next : (n m c : ℕ) (cs : List ℕ) → is_ascii_digit c ≡ true → m ≡ min (n * 10 + (c - 48)) most → told (digits_after m cs) ≡ told (digits_after n (c ∷ cs))
told_next n m c cs digit e =
    let same : told (digits_after m cs) ≡ told (digits_after (n * 10 + (c - 48)) cs) = told_after m (n * 10 + (c - 48)) cs (omega (arith, e)) in
    rw digit same
