-- Scanning gives exactly the lexemes of which the text is made.
use Rattle.std.proofs.Common.{◌≡◌, ℕ, ◌+◌, Bool, true, false, not, ◌||◌, ◌==◌, List, [], ◌∷◌, ◌++◌, length, Option, Some, None, IfSome, IsTrue, refl, sym, ap, ap₂, ◌∙◌, subst, arith, append_assoc}
use Rattle.std.proofs.lemmas.{Bool.or_parts, Bool.not-true, Bool.and_parts, Bool.Decides.nat_tests, List.append-nil}
use Rattle.review_expr_terms.specs.Lexemes.{Lexeme, Word, Open, Close, is_blank, is_end, runs, all_blank, ends, IsCut}
use Rattle.review_expr_terms.specs.inner.Scan.{Mode, Between, Within, begins, begins_by, step_by, step, finish, put, scan}

-- what is left of the text, where a word may be half read
abbrev Cuts : Mode → ℕ → List Lexeme → List ℕ → Type 0
Cuts Between at ls text = IsCut at ls text
Cuts (Within place w quoted) at ls text = (more rest : List ℕ) × (later : List Lexeme) × (ls ≡ Word place (w ++ more) ∷ later) × (text ≡ more ++ rest)
    × IsTrue (runs quoted more) × IsTrue (ends rest) × IsCut (at + length more) later rest

-- white space in front
blank_front : (at c : ℕ) (ls : List Lexeme) (cs : List ℕ) → is_blank c ≡ true → IsCut (at + 1) ls cs → IsCut at ls (c ∷ cs)
blank_front at c [] cs b h = rw b h
blank_front at c (Open place ∷ ls) cs b h =
    (c ∷ h.0, h.1, (rw b h.2), ap (λ xs. c ∷ xs) h.3, h.4 ∙ omega arith, h.5)
blank_front at c (Close ∷ ls) cs b h =
    (c ∷ h.0, h.1, (rw b h.2), ap (λ xs. c ∷ xs) h.3, subst (λ n. IsCut n ls h.1) (omega arith) h.4)
blank_front at c (Word place w ∷ ls) cs b h =
    (c ∷ h.0, h.1, h.2, h.3, (rw b h.4), h.5, h.6, h.7, h.8 ∙ omega arith, ap (λ xs. c ∷ xs) h.9, h.10)

equal : (c d : ℕ) → (c == d) ≡ true → c ≡ d
equal c d e = grind (arith, nat_tests)

-- a word begins
word_front : (at c : ℕ) (ls : List Lexeme) (cs : List ℕ) → is_end c ≡ false → Cuts (Within at (c ∷ []) (c == 34)) (at + 1) ls cs → IsCut at ls (c ∷ cs)
word_front at c ls cs e h =
    let more = h.0 in
    let cut : IsCut at (Word at (c ∷ more) ∷ h.2) (c ∷ cs) =
    ([], c, more, h.1, refl, refl, (rw e h.5), h.6, omega arith, ap (λ xs. c ∷ xs) h.4, subst (λ n. IsCut n h.2 h.1) (omega arith) h.7) in
    subst (λ ms. IsCut at ms (c ∷ cs)) (sym h.3) cut

begins_sound : (blank opens closes : Bool) (at c : ℕ) (ls : List Lexeme) (cs : List ℕ) →
    is_blank c ≡ blank → (c == 40) ≡ opens → (c == 41) ≡ closes →
    Cuts (begins_by blank opens closes at c).1 (at + 1) ls cs → IsCut at ((begins_by blank opens closes at c).0 ++ ls) (c ∷ cs)
begins_sound true opens closes at c ls cs b o k h = blank_front at c ls cs b h
begins_sound false true closes at c ls cs b o k h =
    ([], cs, refl, ap (λ x. x ∷ cs) (equal c 40 o), omega arith, h)
begins_sound false false true at c ls cs b o k h =
    ([], cs, refl, ap (λ x. x ∷ cs) (equal c 41 k), subst (λ n. IsCut n ls cs) (omega arith) h)
begins_sound false false false at c ls cs b o k h = word_front at c ls cs (rw (b, o, k) refl) h

-- a byte more of a word
word_more : (quoted next : Bool) (place : ℕ) (w : List ℕ) (at c : ℕ) (ls : List Lexeme) (cs : List ℕ) →
    ((more : List ℕ) → IsTrue (runs next more) → IsTrue (runs quoted (c ∷ more))) →
    Cuts (Within place (w ++ c ∷ []) next) (at + 1) ls cs → Cuts (Within place w quoted) at ls (c ∷ cs)
word_more quoted next place w at c ls cs longer h = (
  c ∷ h.0,
  h.1,
  h.2,
  h.3 ∙ ap (λ xs. Word place xs ∷ h.2) (append_assoc w (c ∷ []) h.0),
  ap (λ xs. c ∷ xs) h.4,
  longer h.0 h.5,
  h.6,
  subst (λ n. IsCut n h.2 h.1) (omega arith) h.7,
)

word_ends : (place : ℕ) (w : List ℕ) (at c : ℕ) (ls : List Lexeme) (cs : List ℕ) → is_end c ≡ true → IsCut at ls (c ∷ cs) →
    Cuts (Within place w false) at (Word place w ∷ ls) (c ∷ cs)
word_ends place w at c ls cs e h =
    ([], c ∷ cs, ls, ap (λ xs. Word place xs ∷ ls) (sym (append-nil w)), refl, refl, e, subst (λ n. IsCut n ls (c ∷ cs)) (omega arith) h)

ending_sound : (is : Bool) (place : ℕ) (w : List ℕ) (at c : ℕ) (ls : List Lexeme) (cs : List ℕ) → is_end c ≡ is →
    Cuts (step_by is place w at c).1 (at + 1) ls cs → Cuts (Within place w false) at ((step_by is place w at c).0 ++ ls) (c ∷ cs)
ending_sound true place w at c ls cs e h =
    word_ends place w at c ((begins at c).0 ++ ls) cs e (begins_sound (is_blank c) (c == 40) (c == 41) at c ls cs refl refl refl h)
ending_sound false place w at c ls cs e h =
    word_more false (c == 34) place w at c ls cs (λ more r. rw e r) h

step_sound : (m : Mode) (at c : ℕ) (ls : List Lexeme) (cs : List ℕ) →
    Cuts (step m at c).1 (at + 1) ls cs → Cuts m at ((step m at c).0 ++ ls) (c ∷ cs)
step_sound Between at c ls cs h = begins_sound (is_blank c) (c == 40) (c == 41) at c ls cs refl refl refl h
step_sound (Within place w true) at c ls cs h = word_more true (not (c == 34)) place w at c ls cs (λ more r. r) h
step_sound (Within place w false) at c ls cs h = ending_sound (is_end c) place w at c ls cs refl h

finish_sound : (m : Mode) (at : ℕ) → IfSome (finish m) (λ ls. Cuts m at ls [])
finish_sound Between at = refl
finish_sound (Within place w true) at = tt
finish_sound (Within place w false) at = ([], [], [], ap (λ xs. Word place xs ∷ []) (sym (append-nil w)), refl, refl, refl, refl)

put_sound : (m : Mode) (at c : ℕ) (cs : List ℕ) (r : Option (List Lexeme)) → IfSome r (λ ls. Cuts (step m at c).1 (at + 1) ls cs) →
    IfSome (put (step m at c).0 r) (λ ls. Cuts m at ls (c ∷ cs))
put_sound m at c cs None h = tt
put_sound m at c cs (Some ls) h = step_sound m at c ls cs h

pub scan_sound : (m : Mode) (at : ℕ) (text : List ℕ) → IfSome (scan m at text) (λ ls. Cuts m at ls text)
scan_sound m at [] = finish_sound m at
scan_sound m at (c ∷ cs) = put_sound m at c cs _ (scan_sound (step m at c).1 (at + 1) cs)

-- ---- and nothing else

put_none : (r : Option (List Lexeme)) → put [] r ≡ r
put_none None = refl
put_none (Some ls) = refl

pub put_put : (a b : List Lexeme) (r : Option (List Lexeme)) → put (a ++ b) r ≡ put a (put b r)
put_put a b None = refl
put_put a b (Some ls) = ap Some (append_assoc a b ls)

begins_blank : (at c : ℕ) → is_blank c ≡ true → begins at c ≡ ([], Between)
begins_blank at c e = ap (λ b. begins_by b (c == 40) (c == 41) at c) e

begins_word : (at c : ℕ) → is_end c ≡ false → begins at c ≡ ([], Within at (c ∷ []) (c == 34))
begins_word at c e =
    let first = (or_parts (is_blank c || c == 40) (c == 41) e).0 in
    ap (λ b. begins_by b (c == 40) (c == 41) at c) (or_parts (is_blank c) (c == 40) first).0
    ∙ ap (λ b. begins_by false b (c == 41) at c) (or_parts (is_blank c) (c == 40) first).1
    ∙ ap (λ b. begins_by false false b at c) (or_parts (is_blank c || c == 40) (c == 41) e).1

scan_blank : (blank text : List ℕ) (at : ℕ) → IsTrue (all_blank blank) → scan Between at (blank ++ text) ≡ scan Between (at + length blank) text
scan_blank [] text at h = ap (λ n. scan Between n text) (omega arith)
scan_blank (c ∷ cs) text at h =
    ap (λ (x : List Lexeme × Mode). put x.0 (scan x.1 (at + 1) (cs ++ text))) (begins_blank at c (and_parts _ _ h).0)
    ∙ put_none _ ∙ scan_blank cs text (at + 1) (and_parts _ _ h).1 ∙ ap (λ n. scan Between n text) (omega arith)

word_on : (m : Mode) (at c : ℕ) (cs rest : List ℕ) (place : ℕ) (w : List ℕ) (next : Bool) →
    step m at c ≡ ([], Within place (w ++ c ∷ []) next) →
    scan (Within place (w ++ c ∷ []) next) (at + 1) (cs ++ rest) ≡ put (Word place ((w ++ c ∷ []) ++ cs) ∷ []) (scan Between (at + 1 + length cs) rest) →
    scan m at (c ∷ (cs ++ rest)) ≡ put (Word place (w ++ c ∷ cs) ∷ []) (scan Between (at + length (c ∷ cs)) rest)
word_on m at c cs rest place w next s e =
    ap (λ (x : List Lexeme × Mode). put x.0 (scan x.1 (at + 1) (cs ++ rest))) s ∙ put_none _ ∙ e
    ∙ ap₂ (λ xs n. put (Word place xs ∷ []) (scan Between n rest)) (append_assoc w (c ∷ []) cs) (omega arith)

scan_word : (more rest : List ℕ) (place : ℕ) (w : List ℕ) (quoted : Bool) (at : ℕ) → IsTrue (runs quoted more) → IsTrue (ends rest) →
    scan (Within place w quoted) at (more ++ rest) ≡ put (Word place (w ++ more) ∷ []) (scan Between (at + length more) rest)
scan_word [] rest place w true at h e = cc
scan_word [] [] place w false at h e = ap (λ xs. Some (Word place xs ∷ [])) (sym (append-nil w))
scan_word [] (c ∷ cs) place w false at h e =
    ap (λ b. put (step_by b place w at c).0 (scan (step_by b place w at c).1 (at + 1) cs)) e
    ∙ put_put (Word place w ∷ []) (begins at c).0 _
    ∙ ap₂ (λ xs n. put (Word place xs ∷ []) (scan Between n (c ∷ cs))) (sym (append-nil w)) (omega arith)
scan_word (c ∷ cs) rest place w true at h e =
    word_on (Within place w true) at c cs rest place w (not (c == 34)) refl (scan_word cs rest place (w ++ c ∷ []) (not (c == 34)) (at + 1) h e)
scan_word (c ∷ cs) rest place w false at h e =
    word_on (Within place w false) at c cs rest place w (c == 34) (ap (λ b. step_by b place w at c) (not-true _ (and_parts _ _ h).0))
    (scan_word cs rest place (w ++ c ∷ []) (c == 34) (at + 1) (and_parts _ _ h).1 e)

pub scan_again : (ls : List Lexeme) (at : ℕ) (text : List ℕ) → IsCut at ls text → scan Between at text ≡ Some ls
scan_again [] at text h = ap (scan Between at) (sym (append-nil text)) ∙ scan_blank text [] at h
scan_again (Open place ∷ ls) at text h =
    ap (scan Between at) h.3 ∙ scan_blank h.0 (40 ∷ h.1) at h.2
    ∙ ap (λ n. put (Open n ∷ []) (scan Between (n + 1) h.1)) (sym h.4)
    ∙ ap (put (Open place ∷ [])) (scan_again ls (place + 1) h.1 h.5)
scan_again (Close ∷ ls) at text h =
    ap (scan Between at) h.3 ∙ scan_blank h.0 (41 ∷ h.1) at h.2 ∙ ap (put (Close ∷ [])) (scan_again ls (at + length h.0 + 1) h.1 h.4)
scan_again (Word place w ∷ ls) at text h =
    let r = rw h.5 at h.6 in
    let t = h.9 ∙ ap (λ xs. h.0 ++ (xs ++ h.3)) h.5 in
    let n = at + length h.0 in
    ap (scan Between at) t ∙ scan_blank h.0 (h.1 ∷ (h.2 ++ h.3)) at h.4
    ∙ word_on Between n h.1 h.2 h.3 n [] (h.1 == 34) (begins_word n h.1 (not-true _ (and_parts _ _ r).0))
    (scan_word h.2 h.3 n (h.1 ∷ []) (h.1 == 34) (n + 1) (and_parts _ _ r).1 h.7)
    ∙ ap₂ (λ p xs. put (Word p xs ∷ []) (scan Between (p + length xs) h.3)) (sym h.8) (sym h.5)
    ∙ ap (put (Word place w ∷ [])) (scan_again ls (place + length w) h.3 h.10)
