-- One byte more of an open word.
use Rattle.std.proofs.Common.{◌≡◌, ℕ, zero, suc, ◌+◌, ◌-◌, ◌≤◌, ◌<◌, List, [], ◌∷◌, ◌++◌, length, take, drop, get_or, length-drop, get_or-drop, refl, sym, ap, ap₂, ◌∙◌, arith, slice_range, Option, Some, None, IfSome, subst, add-one, Bool, true, false, not, ◌==◌, ◌≢◌, ne_eqb}
use Rattle.std.proofs.{Math.Seq.take-suc, Math.Seq.drop-cons, lemmas.List.append-nil, lemmas.Option.same_Some}
use Rattle.review_expr_terms.proofs.Exact.{scan_sound, scan_again}
use Rattle.review_expr_terms.specs.Lexemes.{Lexeme, Word, Close, IsCut, is_blank, is_end, balanced}
use Rattle.review_expr_terms.specs.{Scanned.lexemes, Scanned.lexeme, declared.lexemes.Piece.Piece}
use Rattle.review_expr_terms.specs.inner.Scan.{Mode, Between, Within, step_by, finish, put, scan}
use Rattle.review_expr_terms.specs.inner.Words.{advanced, mode_of, starts_by}

pub slice_more : (text : List ℕ) (start at : ℕ) → at < length text → start ≤ at →
    slice_range text start (at + 1) ≡ slice_range text start at ++ get_or text at 0 ∷ []
slice_more text start at lt le =
    let n = at - start in
    let next : at + 1 - start ≡ suc n = omega arith in
    let cell : get_or (drop start text) n 0 ≡ get_or text at 0 = get_or-drop start text n 0 ∙ ap (λ i. get_or text i 0) (omega arith) in
    ap (λ i. take i (drop start text)) next ∙ take-suc (drop start text) n 0 (omega (arith, length-drop start text)) ∙ ap (λ c. take n (drop start text) ++ c ∷ []) cell

pub cut_of : (ls : List Lexeme) (text : List ℕ) → scan Between 0 text ≡ Some ls → IsCut 0 ls text
cut_of ls text e = subst (λ r. IfSome r (λ ms. IsCut 0 ms text)) e (scan_sound Between 0 text)

pub none_of : (text : List ℕ) → scan Between 0 text ≡ None → (ls : List Lexeme) → IsCut 0 ls text → ⊥
none_of text e ls h = let f = sym e ∙ scan_again ls 0 text h in cc

drop_all : {X : Type 0} (xs : List X) → drop (length xs) xs ≡ []
drop_all [] = refl
drop_all (x ∷ xs) = drop_all xs

-- at the end of the text
pub at_end : (text : List ℕ) (at : ℕ) (ls : List Lexeme) (m : Mode) → at ≡ length text →
    put ls (scan m at (drop at text)) ≡ scan Between 0 text → put ls (finish m) ≡ scan Between 0 text
at_end text at ls m e h =
    sym (ap (λ xs. put ls (scan m at xs)) (ap (λ k. drop k text) e ∙ drop_all text)) ∙ h

pub in_quote : (text : List ℕ) (ls : List Lexeme) (at start : ℕ) (s : Option ℕ) (q : Bool) → at < length text → s ≡ Some start → q ≡ true → starts_by s at →
    (ls, mode_of text (at + 1) s (not (get_or text at 0 == 34))) ≡ advanced (ls, mode_of text at s q) at (get_or text at 0)
in_quote text ls at start s q lt e f b =
    rw (e, f) (ap₂ (λ xs w. (xs, Within start w (not (get_or text at 0 == 34)))) (sym (append-nil ls)) (slice_more text start at lt (rw e at b)))

no_end : (c : ℕ) → is_blank c ≡ false → c ≢ 40 → c ≢ 41 → is_end c ≡ false
no_end c b o k = rw (b, ne_eqb c 40 o, ne_eqb c 41 k) refl

pub in_word : (text : List ℕ) (ls : List Lexeme) (at start : ℕ) (s : Option ℕ) (q : Bool) → at < length text → s ≡ Some start → q ≡ false → starts_by s at →
    is_blank (get_or text at 0) ≡ false → get_or text at 0 ≢ 40 → get_or text at 0 ≢ 41 →
    (ls, mode_of text (at + 1) s (get_or text at 0 == 34)) ≡ advanced (ls, mode_of text at s q) at (get_or text at 0)
in_word text ls at start s q lt e f b blank o k =
    rw (e, f) (ap₂ (λ xs w. (xs, Within start w (get_or text at 0 == 34))) (sym (append-nil ls)) (slice_more text start at lt (rw e at b))
    ∙ ap (λ is. (ls ++ (step_by is start (slice_range text start at) at (get_or text at 0)).0, (step_by is start (slice_range text start at) at (get_or text at 0)).1))
    (sym (no_end (get_or text at 0) blank o k)))

pub unclosed : (text : List ℕ) (at start : ℕ) (ls : List Lexeme) (s : Option ℕ) (q : Bool) → s ≡ Some start → q ≡ true →
    put ls (finish (mode_of text at s q)) ≡ None
unclosed text at start ls s q e f = rw (e, f) refl

pub closed : (text : List ℕ) (at start : ℕ) (ls : List Lexeme) (s : Option ℕ) (q : Bool) → s ≡ Some start → q ≡ false →
    put ls (finish (mode_of text at s q)) ≡ Some (ls ++ Word start (slice_range text start at) ∷ [])
closed text at start ls s q e f = rw (e, f) refl

pub between : (text : List ℕ) (at : ℕ) (ls : List Lexeme) (s : Option ℕ) (q : Bool) → s ≡ None →
    put ls (finish (mode_of text at s q)) ≡ Some ls
between text at ls s q e = rw e (ap Some (append-nil ls))

pub uncut : (text : List ℕ) → scan Between 0 text ≡ None → (ls : List Lexeme) → IsCut 0 ls text → balanced 0 ls ≡ false
uncut text e ls h = absurd (none_of text e ls h)

pub one_cut : (text : List ℕ) (ls ms : List Lexeme) → IsCut 0 ls text → IsCut 0 ms text → ms ≡ ls
one_cut text ls ms h k = same_Some _ _ (sym (scan_again ms 0 text k) ∙ scan_again ls 0 text h)

pub unbalanced : (text : List ℕ) (ls : List Lexeme) → IsCut 0 ls text → balanced 0 ls ≡ false → (ms : List Lexeme) → IsCut 0 ms text → balanced 0 ms ≡ false
unbalanced text ls h e ms k = ap (balanced 0) (one_cut text ls ms h k) ∙ e

pub piece_front : (text : List ℕ) (n : ℕ) (ps : List Piece) (i : ℕ) (d p : Piece) → i < length ps → get_or ps i d ≡ p →
    balanced n (lexemes text (drop i ps)) ≡ balanced n (lexeme text p ∷ lexemes text (drop (i + 1) ps))
piece_front text n ps i d p lt is =
    ap (λ xs. balanced n (lexemes text xs)) (drop-cons ps i d lt ∙ ap₂ (λ y k. y ∷ drop k ps) is (sym (add-one i)))

pub none_closes : (n : ℕ) (ls : List Lexeme) → n ≡ 0 → balanced n (Close ∷ ls) ≡ false
none_closes zero ls e = refl
none_closes (suc n) ls e = absurd (omega arith)

pub one_closes : (n m : ℕ) (ls : List Lexeme) → n ≢ 0 → m ≡ n - 1 → balanced n (Close ∷ ls) ≡ balanced m ls
one_closes zero m ls some e = absurd (some refl)
one_closes (suc n) m ls some e = let k : n ≡ m = omega arith in ap (λ x. balanced x ls) k

pub none_left : (text : List ℕ) (n : ℕ) (ps : List Piece) (i : ℕ) → i ≡ length ps → balanced n (lexemes text (drop i ps)) ≡ (n == 0)
none_left text n ps i e = ap (λ xs. balanced n (lexemes text xs)) (ap (λ k. drop k ps) e ∙ drop_all ps)
