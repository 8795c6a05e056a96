-- How the words of a text are read one behind the other.
use Rattle.std.proofs.Common.{◌≡◌, ℕ, ◌+◌, ◌-◌, ◌<◌, Bool, List, [], ◌∷◌, ◌++◌, length, take, drop, get_or, Option, Some, None, IsUtf8, refl, sym, ap, ap₂, ◌∙◌, subst, arith, append_assoc, add-one, drop-cons, inl, inr}
use Rattle.std.proofs.lemmas.List.{append-nil, take-append-drop, take_all, take_more, map-append, length-drop}
use Rattle.std.specs.{List.All, Prelude.is_some, Prelude.slice_range}
use Rattle.review_expr_terms.specs.{Grammar.Tok, Lexemes.Lexeme, Lexemes.Word, Lexemes.IsCut}
use Rattle.review_expr_terms.specs.{Scanned.lexeme, Scanned.lexemes, Scanned.IsWithin, Views.toks}
use Rattle.review_expr_terms.specs.Words.{Reading, Good, Bad, IsWordFault}
use Rattle.review_expr_terms.specs.declared.{lexemes.Piece.Piece, token.Token.Token, word.WordFault.WordFault}
use Rattle.review_expr.proofs.Places.{Spans, lies, spans}
use Rattle.review_expr.specs.Expressions.{IsLaidOut, IsReached, IsParseFault}
use Rattle.review_expr.specs.Tokens.{lexeme_tokens, joined, tokens_before, word_tokens, unsigned, opens_at}
use Rattle.review_expr.specs.inner.Words.{placed}
use Rattle.review_expr_terms.specs.declared.word.WordFault.TheVariants as fault
use Rattle.review_expr_terms.specs.declared.lexemes.Piece.TheVariants as piece

-- tokens, and those of one word or parenthesis behind them
abbrev pub joined_behind : {A : Type 0} → Option (List (Tok A)) → Reading (List (Tok A)) → Option (List (Tok A))
joined_behind (Some ts) (Good us) = Some (ts ++ us)
joined_behind (Some ts) (Bad flaw) = None
joined_behind None us = None

around : {A : Type 0} → (x : Reading (List (Tok A))) (r : Option (List (Tok A))) (y : Reading (List (Tok A))) → joined x (joined_behind r y) ≡ joined_behind (joined x r) y
around (Good ts) (Some us) (Good vs) = ap Some (sym (append_assoc ts us vs))
around (Good ts) (Some us) (Bad flaw) = refl
around (Good ts) None y = refl
around (Bad flaw) r y = refl

last : {A : Type 0} → (y : Reading (List (Tok A))) → joined y (Some []) ≡ joined_behind (Some []) y
last (Good us) = ap Some (append-nil us)
last (Bad flaw) = refl

tokens_more : {A : Type 0} → (reading : List ℕ → Reading A) (before : List Lexeme) (l : Lexeme) (after : List Lexeme) →
    tokens_before reading (before ++ l ∷ []) after ≡ joined_behind (tokens_before reading before (l ∷ after)) (lexeme_tokens reading l after)
tokens_more reading [] l after = last (lexeme_tokens reading l after)
tokens_more reading (m ∷ ms) l after =
    ap₂ (λ xs r. joined (lexeme_tokens reading m xs) r) (append_assoc ms (l ∷ []) after) (tokens_more reading ms l after)
    ∙ around (lexeme_tokens reading m (ms ++ l ∷ after)) (tokens_before reading ms (l ∷ after)) (lexeme_tokens reading l after)

pub one_more : {A : Type 0} → (reading : List ℕ → Reading A) (before : List Lexeme) (l : Lexeme) (after : List Lexeme) (ts us : List (Tok A)) →
    tokens_before reading before (l ∷ after) ≡ Some ts → lexeme_tokens reading l after ≡ Good us → tokens_before reading (before ++ l ∷ []) after ≡ Some (ts ++ us)
one_more reading before l after ts us e f = tokens_more reading before l after ∙ ap₂ joined_behind e f

pub front_piece : (text : List ℕ) (ps : List Piece) (i : ℕ) (d p : Piece) → i < length ps → get_or ps i d ≡ p →
    lexemes text (drop i ps) ≡ lexeme text p ∷ lexemes text (drop (i + 1) ps)
front_piece text ps i d p lt is = ap (lexemes text) (drop-cons ps i d lt ∙ ap₂ (λ y k. y ∷ drop k ps) is (sym (add-one i)))

pub taken_piece : (text : List ℕ) (ps : List Piece) (i : ℕ) (d p : Piece) → i < length ps → get_or ps i d ≡ p →
    lexemes text (take (i + 1) ps) ≡ lexemes text (take i ps) ++ lexeme text p ∷ []
taken_piece text ps i d p lt is = ap (lexemes text) (take_more ps i d lt) ∙ map-append _ (take i ps) _ ∙ ap (λ y. lexemes text (take i ps) ++ lexeme text y ∷ []) is

pub whole_pieces : (text : List ℕ) (ps : List Piece) (i : ℕ) (d p : Piece) → i < length ps → get_or ps i d ≡ p →
    lexemes text ps ≡ lexemes text (take i ps) ++ lexeme text p ∷ lexemes text (drop (i + 1) ps)
whole_pieces text ps i d p lt is =
    ap (lexemes text) (sym (take-append-drop i ps)) ∙ map-append _ (take i ps) (drop i ps) ∙ ap (λ ls. lexemes text (take i ps) ++ ls) (front_piece text ps i d p lt is)

pub to_the_end : {A : Type 0} → (ps : List A) (i : ℕ) → take (length ps - i) (drop i ps) ≡ drop i ps
to_the_end ps i = take_all (length ps - i) (drop i ps) (omega (arith, length-drop i ps))

pub word_fault : {A : Type 0} → (reading : List ℕ → Reading A) (IsDeep IsPattern : List ℕ → Type 0) (text : List ℕ) (place : ℕ) (w : List ℕ) (after : List Lexeme) (e : WordFault) →
    IsReached reading text place w after → IsWordFault (lexeme_tokens reading (Word place w) after) (IsDeep (unsigned w)) (IsPattern (unsigned w)) e →
    IsParseFault reading IsDeep IsPattern text (placed place e)
word_fault reading IsDeep IsPattern text place w after fault.BadTerm r h = inl (w, after, r, h)
word_fault reading IsDeep IsPattern text place w after fault.BadValue r (inl h) = inl (w, after, r, h)
word_fault reading IsDeep IsPattern text place w after fault.BadValue r (inr h) = inr (w, after, r, h)
word_fault reading IsDeep IsPattern text place w after fault.Zero r h = (w, after, r, h)
word_fault reading IsDeep IsPattern text place w after fault.Engine r h = (place, (w, after, r, h))
word_fault reading IsDeep IsPattern text place w after fault.Memory r h = tt

pub word_spans : (text : List ℕ) (ps : List Piece) (i : ℕ) (d : Piece) (start end : ℕ) → IsUtf8 text → IsLaidOut (lexemes text ps) text → All (IsWithin text) ps →
    i < length ps → get_or ps i d ≡ piece.Word start end → Spans text start end
word_spans text ps i d start end u laid within lt is =
    spans text start end (subst (IsWithin text) is (within i d lt))
    (lies (lexemes text (take i ps)) start (slice_range text start end) (lexemes text (drop (i + 1) ps)) 0 text u
    (subst (λ ls. IsCut 0 ls text) (whole_pieces text ps i d (piece.Word start end) lt is) laid.1))

pub word_refused : {A : Type 0} → (reading : List ℕ → Reading A) (IsDeep IsPattern : List ℕ → Type 0) (text : List ℕ) (ps : List Piece) (i : ℕ) (d : Piece) (start end : ℕ) (ts : List (Tok A))
    (opens : Bool) (w : List ℕ) (e : WordFault) → IsLaidOut (lexemes text ps) text → i < length ps → get_or ps i d ≡ piece.Word start end →
    tokens_before reading (lexemes text (take i ps)) (lexemes text (drop i ps)) ≡ Some ts →
    opens_at (start + 1) (lexemes text (drop (i + 1) ps)) ≡ opens → w ≡ slice_range text start end →
    IsWordFault (word_tokens reading opens w) (IsDeep (unsigned w)) (IsPattern (unsigned w)) e →
    IsParseFault reading IsDeep IsPattern text (placed start e)
word_refused reading IsDeep IsPattern text ps i d start end ts opens w e laid lt is kept o v h =
    let after = lexemes text (drop (i + 1) ps) in
    let before = lexemes text (take i ps) in
    let v' = slice_range text start end in
    let reached : IsReached reading text start v' after = (
      before,
      subst (λ ls. IsLaidOut ls text) (whole_pieces text ps i d (piece.Word start end) lt is) laid,
      ap is_some (ap (tokens_before reading before) (sym (front_piece text ps i d (piece.Word start end) lt is)) ∙ kept),
    ) in
    let F : Bool → List ℕ → Type 0 = λ b x. IsWordFault (word_tokens reading b x) (IsDeep (unsigned x)) (IsPattern (unsigned x)) e in
    word_fault reading IsDeep IsPattern text start v' after e reached (subst (λ x. F (opens_at (start + 1) after) x) v (subst (λ b. F b w) (sym o) h))

pub piece_more : {A : Type 0} → (reading : List ℕ → Reading A) (text : List ℕ) (ps : List Piece) (i : ℕ) (d p : Piece) (old new : List (Token A)) (us : List (Tok A)) →
    i < length ps → get_or ps i d ≡ p → tokens_before reading (lexemes text (take i ps)) (lexemes text (drop i ps)) ≡ Some (toks old) →
    lexeme_tokens reading (lexeme text p) (lexemes text (drop (i + 1) ps)) ≡ Good us → toks new ≡ toks old ++ us →
    tokens_before reading (lexemes text (take (i + 1) ps)) (lexemes text (drop (i + 1) ps)) ≡ Some (toks new)
piece_more reading text ps i d p old new us lt is kept good e =
    ap (λ ls. tokens_before reading ls (lexemes text (drop (i + 1) ps))) (taken_piece text ps i d p lt is)
    ∙ one_more reading (lexemes text (take i ps)) (lexeme text p) (lexemes text (drop (i + 1) ps)) (toks old) us
    (ap (tokens_before reading (lexemes text (take i ps))) (sym (front_piece text ps i d p lt is)) ∙ kept) good
    ∙ ap Some (sym e)
