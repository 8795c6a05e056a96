-- From the pieces of a text and their tokens to what the text is.
use Rattle.std.proofs.Common.{◌≡◌, ℕ, ◌≤◌, List, length, Some, IsTrue, refl, sym, ap, ◌∙◌, subst, arith, inr}
use Rattle.std.proofs.lemmas.List.{length-map}
use Rattle.review_expr_terms.specs.{Grammar.Tok, Lexemes.IsCut, Lexemes.balanced, Scanned.lexeme, Scanned.lexemes}
use Rattle.review_expr_terms.specs.{Views.IsShapeFault, Words.Reading}
use Rattle.review_expr_terms.specs.declared.{lexemes.Piece.Piece, parser.ShapeFault.ShapeFault}
use Rattle.review_expr.specs.Expressions.{IsLaidOut, HasTokens, IsParseFault}
use Rattle.review_expr.specs.{Tokens.tokens, inner.Words.shape_fault}
use Rattle.review_expr_terms.specs.declared.parser.ShapeFault.TheVariants as shape

pub laid_out : (text bytes : List ℕ) (ps : List Piece) → bytes ≡ text → length bytes ≤ 4096 → IsCut 0 (lexemes bytes ps) bytes → 1 ≤ length ps → IsTrue (balanced 0 (lexemes bytes ps)) →
    IsLaidOut (lexemes text ps) text
laid_out text bytes ps e short cut some matched =
    let P : List ℕ → Type 0 = λ t. IsLaidOut (lexemes t ps) t in
    subst P e (short, cut, omega (arith, length-map ps (lexeme bytes)), matched)

pub with_tokens : {A : Type 0} → (reading : List ℕ → Reading A) (text bytes : List ℕ) (ps qs : List Piece) (ts : List (Tok A)) →
    bytes ≡ text → length bytes ≤ 4096 → IsCut 0 (lexemes bytes ps) bytes → 1 ≤ length ps → IsTrue (balanced 0 (lexemes bytes ps)) →
    qs ≡ ps → tokens reading (lexemes text qs) ≡ Some ts → HasTokens reading text ts
with_tokens reading text bytes ps qs ts e short cut some matched f good =
    (lexemes text ps, laid_out text bytes ps e short cut some matched, ap (λ rs. tokens reading (lexemes text rs)) (sym f) ∙ good)

pub shape_refused : {A : Type 0} → (reading : List ℕ → Reading A) (IsDeep IsPattern : List ℕ → Type 0) (text : List ℕ) (ts : List (Tok A)) (e : ShapeFault) →
    HasTokens reading text ts → IsShapeFault ts e → IsParseFault reading IsDeep IsPattern text (shape_fault e)
shape_refused reading IsDeep IsPattern text ts shape.BadTerm h f = inr (refl, (ts, h, f))
shape_refused reading IsDeep IsPattern text ts shape.Memory h f = tt
shape_refused reading IsDeep IsPattern text ts _ h f = (refl, (ts, h, f))
