-- Lines that were begun, in parts.
use Rattle.std.proofs.Common.{◌≡◌, ◌≢◌, ◌<◌, ◌++◌, ◌==◌, ℕ, List, [], ◌∷◌, length, true, false, Option, Some, None, arith, sym, subst, append-nil, inr, eqb-true, ◌≤◌, ◌+◌, ◌-◌, take, drop, ap, ◌∙◌, slice_range, drop-cons, drop-drop, add-one, length-take, eq-eqb, get_or-take, take-append-drop, is_some}
use Rattle.std.proofs.{KnownBytes.Consumes-trans, lemmas.Bool.Decides.nat_tests}
use Rattle.std.proofs.lemmas.List.{nil_from_length, get_or_default, drop-take, Elements.All-append}
use Rattle.std.specs.Io.KnownBytes.{Consumes, IsAtEnd, prepend_known}
use Rattle.memchr.specs.Find.{IsFirstByte, is_byte}
use Rattle.review_json_lines.specs.Lines.{IsLineOf, HasNoEnd, IsNext, line_feed, HoldsEnd}
use Rattle.review_json_lines.specs.{declared.lines.Line.Line, inner.Words.GavePart}

-- ==== lines that were begun, and how they end

-- a line that was begun has these bytes so far
abbrev pub IsBegun : Option (List ℕ) → Option (List ℕ) → Line → Type 0
IsBegun old new line = (bytes : List ℕ) × IsLineOf line bytes × HasNoEnd bytes × Consumes old new bytes

-- a part without an end was taken
pub part_consumed : (r : Option (List ℕ)) (old new part : List ℕ) → GavePart false old new part → Consumes (prepend_known old r) (prepend_known new r) part
part_consumed None old new part gave = tt
part_consumed (Some xs) old new part gave = rw (gave.0, gave.1)

pub longer : (a b c : Option (List ℕ)) (line more : Line) (part : List ℕ) → IsBegun a b line → HasNoEnd part
    → ((bytes : List ℕ) → IsLineOf line bytes → IsLineOf more (bytes ++ part)) → Consumes b c part → IsBegun a c more
longer a b c line more part was plain grown gave =
    (was.0 ++ part, grown was.0 was.1, All-append (λ b. b ≢ line_feed) was.0 part was.2 plain, Consumes-trans a b c was.0 part was.3 gave)

-- nothing more was given
pub still : (a b c : Option (List ℕ)) (line : Line) → IsBegun a b line → Consumes b c [] → IsBegun a c line
still a b c line was gave = (was.0, was.1, was.2, subst (Consumes a c) (append-nil was.0) (Consumes-trans a b c was.0 [] was.3 gave))

above_zero : (n : ℕ) → false ≡ (n == 0) → 0 < n
above_zero n some = grind (arith, nat_tests)

nothing_given : (a c : Option (List ℕ)) (bytes : List ℕ) → Consumes a c bytes → IsAtEnd c → bytes ≡ [] → IsAtEnd a
nothing_given None c bytes gave end nothing = tt
nothing_given (Some xs) None bytes gave end nothing = absurd gave
nothing_given (Some xs) (Some ys) bytes gave end nothing = rw (gave, nothing, end)

-- the input ended within a line
pub last : (a c : Option (List ℕ)) (line : Line) → IsBegun a c line → IsAtEnd c
    → ((bytes : List ℕ) → IsLineOf line bytes → false ≡ (length bytes == 0)) → IsNext a c (Some line)
last a c line was end some =
    let long : 0 < length was.0 = above_zero (length was.0) (some was.0 was.1) in
    (was.0, was.1, was.2, inr (was.3, end, long))

-- the input ended before a line
pub none : (a c : Option (List ℕ)) (line : Line) → IsBegun a c line → IsAtEnd c
    → ((bytes : List ℕ) → IsLineOf line bytes → true ≡ (length bytes == 0)) → IsNext a c None
none a c line was end empty =
    let nothing : was.0 ≡ [] = nil_from_length was.0 (eqb-true _ _ (sym (empty was.0 was.1))) in
    (nothing_given a c was.0 was.3 end nothing, end)

-- a read into an empty piece takes nothing away
pub filled : (r s : Option (List ℕ)) (old new : List ℕ) → old ≡ [] → Consumes r s new → Consumes (prepend_known old r) (prepend_known new s) []
filled None s old new empty gave = tt
filled (Some xs) None old new empty gave = gave
filled (Some xs) (Some ys) old new empty gave = rw empty gave

-- ==== parts of lines in the bytes that were read

-- no line ends where no line feed was found
pub none_found : (bytes : List ℕ) → IsFirstByte (is_byte 10) bytes None → HasNoEnd bytes
none_found bytes none = λ k d lt is. none k (omega arith) lt (eq-eqb _ _ (get_or_default bytes k 0 d lt ∙ is))

-- the bytes are those up to a line feed, it, and those after it
pub one_found : (bytes : List ℕ) (at : ℕ) → IsFirstByte (is_byte 10) bytes (Some at) → GavePart true bytes (drop (at + 1) bytes) (take at bytes)
one_found bytes at found =
    let feed = eqb-true _ _ found.1 in
    let rest : drop at bytes ≡ line_feed ∷ drop (at + 1) bytes = rw (add-one, drop-cons bytes at 0 found.0.high, feed) in
    sym (take-append-drop at bytes) ∙ ap (λ l. take at bytes ++ l) rest

-- no line ends before the first line feed
pub none_before : (bytes : List ℕ) (at : ℕ) → IsFirstByte (is_byte 10) bytes (Some at) → HasNoEnd (take at bytes)
none_before bytes at found = λ k d lt is.
    let below : k < at = omega (arith, length-take at bytes) in
    let within : k < length bytes = omega (arith, found.0.high) in
    found.0.before k (omega arith) below (eq-eqb _ _ (get_or_default bytes k 0 d within ∙ sym (get_or-take at bytes k d below) ∙ is))

-- whether a line ends, from whether a line feed was found
pub holds_end : (bytes : List ℕ) (found : Option ℕ) → IsFirstByte (is_byte 10) bytes found → HoldsEnd (is_some found) bytes
holds_end bytes None none = none_found bytes none
holds_end bytes (Some at) found = λ none. none at 0 found.0.high (eqb-true _ _ found.1)

-- what is left of a part of a list without some of its front
pub advanced : (xs : List ℕ) (a e n : ℕ) → n ≤ length (slice_range xs a e) → slice_range xs (a + n) e ≡ drop n (slice_range xs a e)
advanced xs a e n few =
    let whole : n + (e - (a + n)) ≡ e - a = omega (arith, length-take (e - a) (drop a xs)) in
    ap (take (e - (a + n))) (sym (drop-drop n a xs))
    ∙ sym (drop-take n (e - (a + n)) (drop a xs))
    ∙ ap (λ k. drop n (take k (drop a xs))) whole
