-- A text has one fault, but for bad values at words whose patterns nest too deep.
use Rattle.std.proofs.Common.{◌≡◌, ◌⊎◌, inl, inr, ℕ, ◌≤◌, ◌<◌, false, List, [], ◌∷◌, ◌++◌, length, Option, Some, None, IsSome, IsTrue, refl, sym, ap, ap₂, ◌∙◌, subst, arith}
use Rattle.review_expr_terms.proofs.{Moves.one_cut, Verdicts.one_spelling}
use Rattle.review_expr_terms.specs.Grammar.{Tok, Fault, BadTerm, TooDeep, Mixed, HasFault, all_depth}
use Rattle.review_expr_terms.specs.Lexemes.{Lexeme, Word, IsCut, all_blank, balanced}
use Rattle.review_expr_terms.specs.Words.{Reading, Good, Bad, Flaw, NoTerm, NoValue, Zero}
use Rattle.review_words.specs.declared.faults.ExprCode.{ExprCode}
use Rattle.review_expr.proofs.Excluded.{one_reading, no_flaw}
use Rattle.review_expr.specs.Expressions.{IsLaidOut, HasFlaw, HasWord, HasShapeFault, IsFault}
use Rattle.review_expr.specs.Tokens.{lexeme_tokens, joined, tokens_before}
use Rattle.review_words.specs.declared.faults.ExprCode.TheVariants as code

-- why a text has no tree
data Cause : Type 0 where
  Long : Cause
  Blank : Cause
  Loose : Cause
  Flawed : ℕ → Flaw → Cause
  Shaped : Fault → Cause

abbrev IsCause : {A : Type 0} → (List ℕ → Reading A) → List ℕ → Cause → Type 0
IsCause reading text Long = 4096 < length text
IsCause reading text Blank = (length text ≤ 4096) × IsTrue (all_blank text)
IsCause reading text Loose = (length text ≤ 4096) × ((ls : List Lexeme) → IsCut 0 ls text → balanced 0 ls ≡ false)
IsCause reading text (Flawed place flaw) = HasFlaw reading text place flaw
IsCause reading text (Shaped fault) = HasShapeFault reading text fault

abbrev flaw_code : Flaw → ExprCode
flaw_code NoTerm = code.BadTerm
flaw_code NoValue = code.BadValue
flaw_code Zero = code.Zero

abbrev shape_code : Fault → ExprCode
shape_code BadTerm = code.BadTerm
shape_code TooDeep = code.TooDeep
shape_code Mixed = code.Mixed

abbrev answer : Cause → ℕ × ExprCode
answer Long = (0, code.TooLong)
answer Blank = (0, code.Empty)
answer Loose = (0, code.Unbalanced)
answer (Flawed place flaw) = (place, flaw_code flaw)
answer (Shaped fault) = (0, shape_code fault)

-- ---- two words that are reached and have a flaw are the same

some_first : {A : Type 0} → (x : Reading (List (Tok A))) (r : Option (List (Tok A))) (flaw : Flaw) → IsSome (joined x r) → x ≡ Bad flaw → ⊥
some_first (Good ts) r flaw s e = cc
some_first (Bad f) r flaw s e = cc

some_rest : {A : Type 0} → (x : Reading (List (Tok A))) (r : Option (List (Tok A))) → IsSome (joined x r) → IsSome r
some_rest (Good ts) (Some us) s = refl
some_rest (Good ts) None s = s
some_rest (Bad f) (Some us) s = refl
some_rest (Bad f) None s = s

abbrev IsFirst : {A : Type 0} → (List ℕ → Reading A) → List Lexeme → List Lexeme → Lexeme → List Lexeme → Flaw → Type 0
IsFirst reading ls before l after flaw = (before ++ l ∷ after ≡ ls) × IsSome (tokens_before reading before (l ∷ after)) × (lexeme_tokens reading l after ≡ Bad flaw)

head : (a b : Lexeme) (ls ms : List Lexeme) → a ∷ ls ≡ b ∷ ms → a ≡ b
head a b ls ms e = cc

tail : (a b : Lexeme) (ls ms : List Lexeme) → a ∷ ls ≡ b ∷ ms → ls ≡ ms
tail a b ls ms e = cc

one_first : {A : Type 0} → (reading : List ℕ → Reading A) (ls before more : List Lexeme) (l m : Lexeme) (after behind : List Lexeme) (f g : Flaw) →
    IsFirst reading ls before l after f → IsFirst reading ls more m behind g → (l ≡ m) × (after ≡ behind)
one_first reading ls [] [] l m after behind f g h k = (head l m after behind (h.0 ∙ sym k.0), tail l m after behind (h.0 ∙ sym k.0))
one_first reading ls [] (n ∷ ns) l m after behind f g h k =
    let same = h.0 ∙ sym k.0 in
    absurd (some_first (lexeme_tokens reading n (ns ++ m ∷ behind)) _ f k.1
    (ap₂ (lexeme_tokens reading) (sym (head l n after (ns ++ m ∷ behind) same)) (sym (tail l n after (ns ++ m ∷ behind) same)) ∙ h.2))
one_first reading ls (n ∷ ns) [] l m after behind f g h k =
    let same = k.0 ∙ sym h.0 in
    absurd (some_first (lexeme_tokens reading n (ns ++ l ∷ after)) _ g h.1
    (ap₂ (lexeme_tokens reading) (sym (head m n behind (ns ++ l ∷ after) same)) (sym (tail m n behind (ns ++ l ∷ after) same)) ∙ k.2))
one_first reading [] (n ∷ ns) (o ∷ os) l m after behind f g h k = let e = h.0 in cc
one_first reading (x ∷ xs) (n ∷ ns) (o ∷ os) l m after behind f g h k =
    one_first reading xs ns os l m after behind f g
    (tail n x (ns ++ l ∷ after) xs h.0, some_rest (lexeme_tokens reading n (ns ++ l ∷ after)) _ h.1, h.2)
    (tail o x (os ++ m ∷ behind) xs k.0, some_rest (lexeme_tokens reading o (os ++ m ∷ behind)) _ k.1, k.2)

same_place : (p q : ℕ) (v w : List ℕ) → Word p v ≡ Word q w → p ≡ q
same_place p q v w e = cc

same_flaw : {A : Type 0} → (f g : Flaw) (x : Reading A) → x ≡ Bad f → x ≡ Bad g → f ≡ g
same_flaw f g x h k = cc

one_flaw : {A : Type 0} → (reading : List ℕ → Reading A) (text : List ℕ) (p q : ℕ) (f g : Flaw) → HasFlaw reading text p f → HasFlaw reading text q g → (p ≡ q) × (f ≡ g)
one_flaw reading text p q f g h k =
    let ls = h.2.0 ++ Word p h.0 ∷ h.1 in
    let ms = k.2.0 ++ Word q k.0 ∷ k.1 in
    let same = one_first reading ls h.2.0 k.2.0 (Word p h.0) (Word q k.0) h.1 k.1 f g (refl, h.2.2, h.3) (one_cut text ls ms h.2.1.1 k.2.1.1, k.2.2, k.3) in
    (same_place p q h.0 k.0 same.0, same_flaw f g (lexeme_tokens reading (Word p h.0) h.1) h.3 (ap₂ (lexeme_tokens reading) same.0 same.1 ∙ k.3))

one_shape : {A : Type 0} → (ts : List (Tok A)) (f g : Fault) → HasFault ts f → HasFault ts g → f ≡ g
one_shape ts BadTerm BadTerm h k = refl
one_shape ts TooDeep TooDeep h k = refl
one_shape ts TooDeep Mixed h k = let deep : all_depth h.0 ≡ all_depth k.0 = ap all_depth (one_spelling h.0 k.0 (h.1 ∙ sym k.1)) in absurd (omega (arith, deep, h.2, k.2))
one_shape ts Mixed TooDeep h k = let deep : all_depth h.0 ≡ all_depth k.0 = ap all_depth (one_spelling h.0 k.0 (h.1 ∙ sym k.1)) in absurd (omega (arith, deep, h.2, k.2))
one_shape ts Mixed Mixed h k = refl
one_shape ts _ BadTerm h k = absurd (k h.0 h.1)
one_shape ts BadTerm _ h k = absurd (h k.0 k.1)

blank_laid : (text : List ℕ) (ls : List Lexeme) → IsLaidOut ls text → IsTrue (all_blank text) → ⊥
blank_laid text ls h b = let same : [] ≡ ls = one_cut text ls [] h.1 b in absurd (omega (arith, h.2, ap length same))

loose_cut : (text : List ℕ) (ls : List Lexeme) → IsCut 0 ls text → IsTrue (balanced 0 ls) → ((ms : List Lexeme) → IsCut 0 ms text → balanced 0 ms ≡ false) → ⊥
loose_cut text ls h b f = let e = sym b ∙ f ls h in cc

one_cause : {A : Type 0} → (reading : List ℕ → Reading A) (text : List ℕ) (a b : Cause) → IsCause reading text a → IsCause reading text b → a ≡ b
one_cause reading text Long Long h k = refl
one_cause reading text Long Blank h k = absurd (omega (arith, h, k.0))
one_cause reading text Long Loose h k = absurd (omega (arith, h, k.0))
one_cause reading text Long (Flawed q g) h k = absurd (omega (arith, h, k.2.1.0))
one_cause reading text Long (Shaped g) h k = absurd (omega (arith, h, k.1.1.0))
one_cause reading text Blank Long h k = absurd (omega (arith, k, h.0))
one_cause reading text Blank Blank h k = refl
one_cause reading text Blank Loose h k = absurd (loose_cut text [] h.1 refl k.1)
one_cause reading text Blank (Flawed q g) h k = absurd (blank_laid text _ k.2.1 h.1)
one_cause reading text Blank (Shaped g) h k = absurd (blank_laid text _ k.1.1 h.1)
one_cause reading text Loose Long h k = absurd (omega (arith, k, h.0))
one_cause reading text Loose Blank h k = absurd (loose_cut text [] k.1 refl h.1)
one_cause reading text Loose Loose h k = refl
one_cause reading text Loose (Flawed q g) h k = absurd (loose_cut text _ k.2.1.1 k.2.1.3 h.1)
one_cause reading text Loose (Shaped g) h k = absurd (loose_cut text _ k.1.1.1 k.1.1.3 h.1)
one_cause reading text (Flawed p f) Long h k = absurd (omega (arith, k, h.2.1.0))
one_cause reading text (Flawed p f) Blank h k = absurd (blank_laid text _ h.2.1 k.1)
one_cause reading text (Flawed p f) Loose h k = absurd (loose_cut text _ h.2.1.1 h.2.1.3 k.1)
one_cause reading text (Flawed p f) (Flawed q g) h k = let same = one_flaw reading text p q f g h k in ap₂ Flawed same.0 same.1
one_cause reading text (Flawed p f) (Shaped g) h k = absurd (no_flaw reading text k.0 p f k.1 h)
one_cause reading text (Shaped f) Long h k = absurd (omega (arith, k, h.1.1.0))
one_cause reading text (Shaped f) Blank h k = absurd (blank_laid text _ h.1.1 k.1)
one_cause reading text (Shaped f) Loose h k = absurd (loose_cut text _ h.1.1.1 h.1.1.3 k.1)
one_cause reading text (Shaped f) (Flawed q g) h k = absurd (no_flaw reading text h.0 q g h.1 k)
one_cause {A = A} reading text (Shaped f) (Shaped g) h k =
    ap Shaped (one_shape k.0 f g (subst (λ (xs : List (Tok A)). HasFault xs f) (one_reading reading text h.0 k.0 h.1 k.1) h.2) k.2)

-- a fault by its cause
record Caused {A : Type 0} (reading : List ℕ → Reading A) (text : List ℕ) (place : ℕ) (c : ExprCode) : Type 0 where
  cause : Cause
  is : IsCause reading text cause
  answers : answer cause ≡ (place, c)

at_zero : (place : ℕ) (c : ExprCode) → place ≡ 0 → (let x : ℕ × ExprCode = (0, c) in x) ≡ (place, c)
at_zero place c e = ap (λ (n : ℕ). (let x : ℕ × ExprCode = (n, c) in x)) (sym e)

-- a fault is a bad value at a word whose pattern nests too deep, or has its cause
caused : {A : Type 0} → (reading : List ℕ → Reading A) (IsDeep : List ℕ → Type 0) (text : List ℕ) (place : ℕ) (c : ExprCode) →
    IsFault reading IsDeep text place c → ((c ≡ code.BadValue) × HasWord reading IsDeep text place) ⊎ Caused reading text place c
caused reading IsDeep text place code.TooLong h = inr (record { cause = Long; is = h.1; answers = at_zero place code.TooLong h.0 })
caused reading IsDeep text place code.Empty h = inr (record { cause = Blank; is = (h.1, h.2); answers = at_zero place code.Empty h.0 })
caused reading IsDeep text place code.Unbalanced h = inr (record { cause = Loose; is = (h.1, h.2); answers = at_zero place code.Unbalanced h.0 })
caused reading IsDeep text place code.BadTerm (inl h) = inr (record { cause = Flawed place NoTerm; is = h; answers = refl })
caused reading IsDeep text place code.BadTerm (inr h) = inr (record { cause = Shaped BadTerm; is = h.1; answers = at_zero place code.BadTerm h.0 })
caused reading IsDeep text place code.BadValue (inl h) = inr (record { cause = Flawed place NoValue; is = h; answers = refl })
caused reading IsDeep text place code.BadValue (inr h) = inl (refl, h)
caused reading IsDeep text place code.Zero h = inr (record { cause = Flawed place Zero; is = h; answers = refl })
caused reading IsDeep text place code.TooDeep h = inr (record { cause = Shaped TooDeep; is = h.1; answers = at_zero place code.TooDeep h.0 })
caused reading IsDeep text place code.Mixed h = inr (record { cause = Shaped Mixed; is = h.1; answers = at_zero place code.Mixed h.0 })

pub one_fault : {A : Type 0} → (reading : List ℕ → Reading A) (IsDeep : List ℕ → Type 0) (text : List ℕ) (p q : ℕ) (a b : ExprCode) →
    IsFault reading IsDeep text p a → IsFault reading IsDeep text q b →
    ((p ≡ q) × (a ≡ b)) ⊎ (((a ≡ code.BadValue) × HasWord reading IsDeep text p) ⊎ ((b ≡ code.BadValue) × HasWord reading IsDeep text q))
one_fault reading IsDeep text p q a b h k = by (caused reading IsDeep text p a h) (caused reading IsDeep text q b k)
  where
    by : ((a ≡ code.BadValue) × HasWord reading IsDeep text p) ⊎ Caused reading text p a → ((b ≡ code.BadValue) × HasWord reading IsDeep text q) ⊎ Caused reading text q b →
        ((p ≡ q) × (a ≡ b)) ⊎ (((a ≡ code.BadValue) × HasWord reading IsDeep text p) ⊎ ((b ≡ code.BadValue) × HasWord reading IsDeep text q))
    by (inl deep) y = inr (inl deep)
    by (inr x) (inl deep) = inr (inr deep)
    by (inr x) (inr y) =
        let same = sym x.answers ∙ ap answer (one_cause reading text x.cause y.cause x.is y.is) ∙ y.answers in
        inl (ap (λ (z : ℕ × ExprCode). z.0) same, ap (λ (z : ℕ × ExprCode). z.1) same)
