-- What a word's tokens are, by what stands in front of it.
use lib.Utf8.{encode}
use Rattle.std.proofs.Common.{◌≡◌, ◌≢◌, ℕ, Bool, true, false, ◌==◌, List, [], ◌∷◌, ◌++◌, length, refl, sym, ap, ◌∙◌, arith, append_assoc, slice_index, lit<, inl, inr}
use Rattle.std.proofs.lemmas.{Bool.Decides.nat_tests, List.map-append, Str.encode_ascii}
use Rattle.{std.specs.Prelude.if◌then◌else◌, review_expr_terms.specs.Views.tok, review_expr_terms.specs.Views.toks}
use Rattle.review_expr_terms.specs.Words.{Reading, Bad, Flaw, NoTerm, NoValue, Zero, IsWordFault}
use Rattle.review_expr_terms.specs.declared.{token.Token.Token, word.WordFault.WordFault}
use Rattle.review_expr.specs.Tokens.{meaning, alone, behind_minus, lone_minus, after_minus, unsigned, word_tokens}
use Rattle.review_expr_terms.specs.declared.word.WordFault.TheVariants as fault

unequal : (c d : ℕ) → c ≢ d → (c == d) ≡ false
unequal c d h = grind (arith, nat_tests)

-- what the search for a minus says, where it finds none
pub no_minus : (w : List ℕ) → ((rest : List ℕ) → w ≡ encode 45 ++ rest → ⊥) → (rest : List ℕ) → w ≡ 45 ∷ rest → ⊥
no_minus w h rest e = h rest (e ∙ ap (λ xs. xs ++ rest) (sym (encode_ascii 45 (lit< tt))))

pub bare_word : {A : Type 0} → (reading : List ℕ → Reading A) (opens : Bool) (w : List ℕ) → ((rest : List ℕ) → w ≡ 45 ∷ rest → ⊥) →
    word_tokens reading opens w ≡ alone (meaning reading w)
bare_word reading opens [] h = refl
bare_word reading opens (c ∷ cs) h =
    ap (λ b. (if b then after_minus reading opens (unsigned (c ∷ cs)) else alone (meaning reading (c ∷ cs)))) (unequal c 45 (λ e. h cs (ap (λ x. x ∷ cs) e)))

pub bare_unsigned : (w : List ℕ) → ((rest : List ℕ) → w ≡ 45 ∷ rest → ⊥) → unsigned w ≡ w
bare_unsigned [] h = refl
bare_unsigned (c ∷ cs) h = ap (λ b. (if b then cs else c ∷ cs)) (unequal c 45 (λ e. h cs (ap (λ x. x ∷ cs) e)))

pub signed_term : {A : Type 0} → (reading : List ℕ → Reading A) (opens : Bool) (w cs : List ℕ) → w ≡ 45 ∷ cs → (length cs == 0) ≡ false → (slice_index cs 0 == 45) ≡ false →
    word_tokens reading opens w ≡ behind_minus (meaning reading cs)
signed_term reading opens w [] e some first = cc
signed_term reading opens w (c ∷ cs) e some first =
    ap (word_tokens reading opens) e ∙ ap (λ b. (if b then Bad NoTerm else behind_minus (meaning reading (c ∷ cs)))) first

pub signed_alone : {A : Type 0} → (reading : List ℕ → Reading A) (opens : Bool) (w cs : List ℕ) → w ≡ 45 ∷ cs → (length cs == 0) ≡ true →
    word_tokens reading opens w ≡ lone_minus opens
signed_alone reading opens w [] e none = ap (word_tokens reading opens) e
signed_alone reading opens w (c ∷ cs) e none = absurd (grind (arith, nat_tests))

-- a fault of what stands alone, or behind a minus, is one of the word
pub fault_along : {A B : Type 0} → (f : Reading A → Reading B) → ((flaw : Flaw) → f (Bad flaw) ≡ Bad flaw) → (r : Reading A) (IsDeep IsPattern : Type 0) (e : WordFault) →
    IsWordFault r IsDeep IsPattern e → IsWordFault (f r) IsDeep IsPattern e
fault_along f keeps r IsDeep IsPattern fault.BadTerm h = ap f h ∙ keeps NoTerm
fault_along f keeps r IsDeep IsPattern fault.BadValue (inl h) = inl (ap f h ∙ keeps NoValue)
fault_along f keeps r IsDeep IsPattern fault.BadValue (inr h) = inr h
fault_along f keeps r IsDeep IsPattern fault.Zero h = ap f h ∙ keeps Zero
fault_along f keeps r IsDeep IsPattern _ h = h

pub toks_more : {A : Type 0} → (new old : List (Token A)) (t : Token A) → new ≡ old ++ t ∷ [] → toks new ≡ toks old ++ tok t ∷ []
toks_more new old t e = ap toks e ∙ map-append _ _ _

pub toks_two : {A : Type 0} → (new mid old : List (Token A)) (t u : Token A) → mid ≡ old ++ t ∷ [] → new ≡ mid ++ u ∷ [] → toks new ≡ toks old ++ tok t ∷ tok u ∷ []
toks_two new mid old t u e f =
    toks_more new mid u f ∙ ap (λ xs. xs ++ tok u ∷ []) (toks_more mid old t e) ∙ append_assoc (toks old) (tok t ∷ []) (tok u ∷ [])
