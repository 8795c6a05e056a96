-- A text has one tree, and where it has one no fault, unless a word's pattern nests too deep.
use Rattle.std.proofs.Common.{◌≡◌, inl, inr, ℕ, Bool, true, false, List, [], ◌∷◌, ◌++◌, length, None, refl, sym, ap, ◌∙◌, subst, arith}
use Rattle.std.proofs.lemmas.{List.append-nil, Option.same_Some}
use Rattle.review_expr_terms.proofs.{Moves.one_cut, Verdicts.one_spelling}
use Rattle.review_expr_terms.specs.Grammar.{Tok, Tree, Fault, BadTerm, TooDeep, Mixed, HasFault, HasTree, tree, all_depth, mixed}
use Rattle.review_expr_terms.specs.Lexemes.{Lexeme, Word, balanced}
use Rattle.review_expr_terms.specs.Words.{Reading, Good, Bad, Flaw}
use Rattle.review_words.specs.declared.faults.ExprCode.{ExprCode}
use Rattle.review_expr.specs.Expressions.{HasTokens, HasExpr, HasFlaw, HasWord, HasShapeFault, IsFault}
use Rattle.review_expr.specs.Tokens.{lexeme_tokens, joined, tokens_before, tokens}
use Rattle.review_words.specs.declared.faults.ExprCode.TheVariants as code

joined_none : {A : Type 0} → (x : Reading (List (Tok A))) → joined x None ≡ None
joined_none (Good ts) = refl
joined_none (Bad flaw) = refl

-- a flaw leaves no tokens
flaw_none : {A : Type 0} → (reading : List ℕ → Reading A) (before : List Lexeme) (l : Lexeme) (after : List Lexeme) (flaw : Flaw) → lexeme_tokens reading l after ≡ Bad flaw →
    tokens reading (before ++ l ∷ after) ≡ None
flaw_none reading [] l after flaw e =
    ap (λ x. joined x (tokens_before reading after [])) (ap (lexeme_tokens reading l) (append-nil after) ∙ e)
flaw_none reading (m ∷ ms) l after flaw e =
    ap (joined (lexeme_tokens reading m ((ms ++ l ∷ after) ++ []))) (flaw_none reading ms l after flaw e) ∙ joined_none (lexeme_tokens reading m ((ms ++ l ∷ after) ++ []))

-- the tokens of a text are one list
pub one_reading : {A : Type 0} → (reading : List ℕ → Reading A) (text : List ℕ) (ts us : List (Tok A)) → HasTokens reading text ts → HasTokens reading text us → ts ≡ us
one_reading reading text ts us h k = same_Some _ _ (sym h.2 ∙ ap (tokens reading) (sym (one_cut text h.0 k.0 h.1.1 k.1.1)) ∙ k.2)

pub no_flaw : {A : Type 0} → (reading : List ℕ → Reading A) (text : List ℕ) (ts : List (Tok A)) (place : ℕ) (flaw : Flaw) → HasTokens reading text ts → HasFlaw reading text place flaw → ⊥
no_flaw reading text ts place flaw h k =
    let all = k.2.0 ++ Word place k.0 ∷ k.1 in
    let same : all ≡ h.0 = one_cut text h.0 all h.1.1 k.2.1.1 in
    let none : tokens reading h.0 ≡ None = ap (tokens reading) (sym same) ∙ flaw_none reading k.2.0 (Word place k.0) k.1 flaw k.3 in
    let both = sym none ∙ h.2 in cc

not_both : (b : Bool) → b ≡ true → b ≡ false → ⊥
not_both b t f = cc

no_shape_fault : {A : Type 0} → (ts : List (Tok A)) (t : Tree A) (f : Fault) → HasTree ts t → HasFault ts f → ⊥
no_shape_fault ts t BadTerm h k = k h.0 h.1
no_shape_fault ts t TooDeep h k =
    let same = one_spelling h.0 k.0 (h.1 ∙ sym k.1) in
    let deep : all_depth h.0 ≡ all_depth k.0 = ap all_depth same in omega (arith, deep, h.2, k.2)
no_shape_fault ts t Mixed h k = not_both (mixed k.0) k.3 (ap mixed (sym (one_spelling h.0 k.0 (h.1 ∙ sym k.1))) ∙ h.3)

no_shape : {A : Type 0} → (reading : List ℕ → Reading A) (text : List ℕ) (t : Tree A) (f : Fault) → HasExpr reading text t → HasShapeFault reading text f → ⊥
no_shape {A = A} reading text t f h k =
    no_shape_fault k.0 t f (subst (λ (xs : List (Tok A)). HasTree xs t) (one_reading reading text h.0 k.0 h.1 k.1) h.2) k.2

-- a text with a tree has no fault but a bad value, at a word whose pattern nests too deep
pub bad_value : {A : Type 0} → (reading : List ℕ → Reading A) (IsDeep : List ℕ → Type 0) (text : List ℕ) (t : Tree A) (place : ℕ) (c : ExprCode) →
    HasExpr reading text t → IsFault reading IsDeep text place c → (c ≡ code.BadValue) × HasWord reading IsDeep text place
bad_value reading IsDeep text t place code.TooLong h k = absurd (omega (arith, h.1.1.0, k.1))
bad_value reading IsDeep text t place code.Empty h k =
    let same : [] ≡ h.1.0 = one_cut text h.1.0 [] h.1.1.1 k.2 in absurd (omega (arith, h.1.1.2, ap length same))
bad_value reading IsDeep text t place code.Unbalanced h k = absurd (not_both (balanced 0 h.1.0) h.1.1.3 (k.2 h.1.0 h.1.1.1))
bad_value reading IsDeep text t place code.BadTerm h (inr k) = absurd (no_shape reading text t BadTerm h k.1)
bad_value reading IsDeep text t place code.BadValue h (inr k) = (refl, k)
bad_value reading IsDeep text t place code.Zero h k = absurd (no_flaw reading text h.0 place _ h.1 k)
bad_value reading IsDeep text t place code.TooDeep h k = absurd (no_shape reading text t TooDeep h k.1)
bad_value reading IsDeep text t place code.Mixed h k = absurd (no_shape reading text t Mixed h k.1)
bad_value reading IsDeep text t place _ h (inl k) = absurd (no_flaw reading text h.0 place _ h.1 k)

-- a text has one tree
pub one_tree : {A : Type 0} → (reading : List ℕ → Reading A) (text : List ℕ) (t u : Tree A) → HasExpr reading text t → HasExpr reading text u → t ≡ u
one_tree reading text t u h k = sym h.2.4 ∙ ap tree (one_spelling h.2.0 k.2.0 (h.2.1 ∙ one_reading reading text h.0 k.0 h.1 k.1 ∙ sym k.2.1)) ∙ k.2.4
