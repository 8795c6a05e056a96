-- Where the words of a text lie in it.
use Rattle.std.proofs.Common.{◌≡◌, ℕ, ◌+◌, ◌-◌, ◌<◌, ◌≤◌, min, true, List, [], ◌∷◌, ◌++◌, length, drop, get_or, slice_range, IsTrue, IsUtf8, sym, ap, ◌∙◌, subst, arith, append_assoc, length-append, length-drop}
use Rattle.std.proofs.Math.Seq.{drop-append_seam, get_or-append_seam}
use Rattle.std.proofs.lemmas.{Bool.and_parts, Bool.Decides.nat_tests, List.length-take}
use Rattle.std.proofs.lemmas.Str.{IsUtf8-nil, IsUtf8-drop, IsCharBoundary-after_ascii, IsCharBoundary-before_ascii, IsCharBoundary-at_seam}
use Rattle.std.specs.Str.{IsCharBoundary}
use Rattle.review_expr_terms.specs.Lexemes.{Lexeme, Word, Open, Close, is_blank, is_end, all_blank, ends, IsCut}

-- a word, with what stands before and behind it
pub record Lies (at : ℕ) (text : List ℕ) (place : ℕ) (w : List ℕ) : Type 0 where
  pub front : List ℕ
  pub more : List ℕ
  pub parts : text ≡ front ++ (w ++ more)
  pub start : place ≡ at + length front
  pub some : 1 ≤ length w
  pub begins : IsUtf8 (w ++ more)
  pub goes_on : IsUtf8 more

end_ascii : (c : ℕ) → is_end c ≡ true → c < 128
end_ascii c e = grind (arith, nat_tests)

blank_ascii : (c : ℕ) → is_blank c ≡ true → c < 128
blank_ascii c e = grind (arith, nat_tests)

behind_ascii : (c : ℕ) (cs : List ℕ) → c < 128 → IsUtf8 (c ∷ cs) → IsUtf8 cs
behind_ascii c cs low u =
    let one : 0 < length (c ∷ cs) = omega arith in IsUtf8-drop (c ∷ cs) 1 u (IsCharBoundary-after_ascii (c ∷ cs) 0 u one low)

behind_blank : (blank rest : List ℕ) → IsTrue (all_blank blank) → IsUtf8 (blank ++ rest) → IsUtf8 rest
behind_blank [] rest h u = u
behind_blank (c ∷ cs) rest h u = behind_blank cs rest (and_parts _ _ h).1 (behind_ascii c (cs ++ rest) (blank_ascii c (and_parts _ _ h).0) u)

behind_word : (w rest : List ℕ) → IsUtf8 (w ++ rest) → IsTrue (ends rest) → IsUtf8 rest
behind_word w [] u h = IsUtf8-nil
behind_word w (c ∷ cs) u h =
    let inside : length w < length (w ++ c ∷ cs) = omega (arith, length-append w (c ∷ cs)) in
    let low : get_or (w ++ c ∷ cs) (length w) 0 < 128 = rw (get_or-append_seam w c cs 0) (end_ascii c h) in
    rw (drop-append_seam w (c ∷ cs)) at (IsUtf8-drop (w ++ c ∷ cs) (length w) u (IsCharBoundary-before_ascii (w ++ c ∷ cs) (length w) inside low))

-- what lies behind a front lies in the whole
later : (front rest : List ℕ) (at next : ℕ) (text : List ℕ) (place : ℕ) (w : List ℕ) → text ≡ front ++ rest → next ≡ at + length front →
    Lies next rest place w → Lies at text place w
later front rest at next text place w e n h = record {
  front = front ++ h.front;
  more = h.more;
  parts = e ∙ ap (λ xs. front ++ xs) h.parts ∙ sym (append_assoc front h.front (w ++ h.more));
  start = omega (arith, h.start, n, length-append front h.front);
  some = h.some;
  begins = h.begins;
  goes_on = h.goes_on;
}

pub lies : (before : List Lexeme) (place : ℕ) (w : List ℕ) (after : List Lexeme) (at : ℕ) (text : List ℕ) → IsUtf8 text →
    IsCut at (before ++ Word place w ∷ after) text → Lies at text place w
lies [] place w after at text u h =
    let begins = behind_blank h.0 (w ++ h.3) h.4 (subst IsUtf8 h.9 u) in
    record {
      front = h.0;
      more = h.3;
      parts = h.9;
      start = h.8;
      some = rw h.5 (omega arith);
      begins = begins;
      goes_on = behind_word w h.3 begins h.7;
    }
lies (Open p ∷ ls) place w after at text u h =
    later (h.0 ++ 40 ∷ []) h.1 at (p + 1) text place w (h.3 ∙ sym (append_assoc h.0 (40 ∷ []) h.1)) (omega (arith, h.4, length-append h.0 (40 ∷ [])))
    (lies ls place w after (p + 1) h.1 (behind_ascii 40 h.1 (omega arith) (behind_blank h.0 (40 ∷ h.1) h.2 (subst IsUtf8 h.3 u))) h.5)
lies (Close ∷ ls) place w after at text u h =
    later (h.0 ++ 41 ∷ []) h.1 at (at + length h.0 + 1) text place w (h.3 ∙ sym (append_assoc h.0 (41 ∷ []) h.1)) (omega (arith, length-append h.0 (41 ∷ [])))
    (lies ls place w after (at + length h.0 + 1) h.1 (behind_ascii 41 h.1 (omega arith) (behind_blank h.0 (41 ∷ h.1) h.2 (subst IsUtf8 h.3 u))) h.4)
lies (Word p v ∷ ls) place w after at text u h =
    later (h.0 ++ v) h.3 at (p + length v) text place w (h.9 ∙ sym (append_assoc h.0 v h.3)) (omega (arith, h.8, length-append h.0 v))
    (lies ls place w after (p + length v) h.3 (behind_word v h.3 (behind_blank h.0 (v ++ h.3) h.4 (subst IsUtf8 h.9 u)) h.7) h.10)

-- a word by its ends
pub record Spans (text : List ℕ) (start end : ℕ) : Type 0 where
  pub some : start < end
  pub begins : IsCharBoundary text start
  pub ends : IsCharBoundary text end

pub spans : (text : List ℕ) (start end : ℕ) → end ≤ length text → Lies 0 text start (slice_range text start end) → Spans text start end
spans text start end within h =
    let size : length (slice_range text start end) ≡ min (end - start) (length text - start) =
    length-take (end - start) (drop start text) ∙ ap (min (end - start)) (length-drop start text) in
    let place : start ≡ length h.front = omega (arith, h.start) in
    let stop : end ≡ length (h.front ++ slice_range text start end) = omega (arith, h.start, h.some, size, within, length-append h.front (slice_range text start end)) in
    record {
      some = omega (arith, h.some, size);
      begins = subst (IsCharBoundary text) (sym place) (IsCharBoundary-at_seam text h.front _ h.parts h.begins);
      ends = subst (IsCharBoundary text) (sym stop)
          (IsCharBoundary-at_seam text (h.front ++ slice_range text start end) h.more (h.parts ∙ sym (append_assoc h.front (slice_range text start end) h.more)) h.goes_on);
    }
