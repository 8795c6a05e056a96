-- What is read, and what is refused.
use Rattle.std.proofs.Common.{◌≡◌, inl, inr, ◌&&◌, ℕ, ◌<◌, ◌≤◌, List, true, false, Option, Some, None, IfSome, IsSomeAnd, refl, ap, ◌∙◌, arith}
use Rattle.std.{proofs.Math.Bool.and-false, proofs.lemmas.Bool.Decides.nat_tests, specs.Prelude.nat_le, specs.Str.chars}
use Rattle.regex.specs.{Failures.IsPattern, Names.names_of, declared.string.regex.Regex.Regex}
use Rattle.{regex_hir.specs.Re.Re, regex_syntax.specs.Brackets.Nested}
use Rattle.regex_syntax.specs.{Grammar.Names, Grammar.read, Verdict.Reads, Verdict.Refuses, Verdict.default_config}
use Rattle.regex_syntax.specs.declared.error.ErrorKind.{ErrorKind, TheVariants.OutOfMemory}
use Rattle.review_expr_terms.specs.Patterns.{anchored, is_within, is_read, is_pattern, NestsTooDeep, IsDeepPattern, IsEnginePattern, IsReadFrom, IsLawful}
use Rattle.review_expr_terms.specs.declared.pattern.PatternFault.{PatternFault}
use Rattle.review_expr_terms.specs.declared.pattern.PatternFault.TheVariants.{Syntax, Engine, Memory}
use Rattle.review_expr_terms.specs.inner.Words.{IsRefusedBy}

small : (d n : ℕ) → d ≤ n → nat_le d n ≡ true
small d n h = grind (arith, nat_tests)

large : (d n : ℕ) → n < d → nat_le d n ≡ false
large d n h = grind (arith, nat_tests)

-- what is read within the limit, and what is not
within : (P : Nested Re × Names → Type 0) (o : Option (Nested Re × Names)) → IsSomeAnd o P → ((x : Nested Re × Names) → P x → x.0.depth ≤ default_config.nest_limit) → is_within o ≡ true
within P None h least = absurd h
within P (Some x) h least = small x.0.depth default_config.nest_limit (least x h)

beyond : (o : Option (Nested Re × Names)) → IfSome o (λ x. default_config.nest_limit < x.0.depth) → is_within o ≡ false
beyond None h = refl
beyond (Some x) h = large x.0.depth default_config.nest_limit h

deep_beyond : (o : Option (Nested Re × Names)) → IsSomeAnd o (λ x. default_config.nest_limit < x.0.depth) → is_within o ≡ false
deep_beyond None h = refl
deep_beyond (Some x) h = large x.0.depth default_config.nest_limit h

reads_within : (source : List ℕ) (r : Regex) → Reads default_config source r.pattern.program.hir (names_of r.pattern.names.items) → is_read source ≡ true
unfolding is_read Reads
reads_within source r reads = within _ (read default_config (chars source)) reads (λ x h. h.0)

pub read_from : (source : List ℕ) (r : Regex) → IsReadFrom source r → is_read source ≡ true
read_from source r h =
    let reads : Reads default_config source r.pattern.program.hir (names_of r.pattern.names.items) = rw (h.0, h.1) at h.2 in
    reads_within source r reads

pub refused_text : (source : List ℕ) (k : ErrorKind) → Refuses default_config source k → (k ≡ OutOfMemory → ⊥) → is_read source ≡ false
unfolding is_read Refuses
refused_text source k h other =
    elim h [
      | inl memory ↦ absurd (other memory)
      | inr rest ↦ elim rest [
        | inl none ↦ ap is_within none
        | inr deep ↦ beyond (read default_config (chars source)) deep.1
      ]
    ]

pub both_read : (re : List ℕ) → is_read re ≡ true → is_read (anchored re) ≡ true → is_pattern re ≡ true
unfolding is_pattern
both_read re alone whole = rw (alone, whole) refl

-- one of the two texts is refused
pub alone_refused : (re : List ℕ) → is_read re ≡ false → is_pattern re ≡ false
unfolding is_pattern
alone_refused re none = ap (λ b. b && is_read (anchored re)) none

pub whole_refused : (re : List ℕ) → is_read (anchored re) ≡ false → is_pattern re ≡ false
unfolding is_pattern
whole_refused re none = ap (λ b. is_read re && b) none ∙ and-false (is_read re)

-- a text that nests too deep is not read
deep_unread : (source : List ℕ) → NestsTooDeep source → is_read source ≡ false
unfolding is_read NestsTooDeep
deep_unread source deep = deep_beyond (read default_config (chars source)) deep

-- and so it is no pattern
pub never_deep : (re : List ℕ) → IsDeepPattern re → IsEnginePattern re → ⊥
never_deep re deep is =
    let none : is_pattern re ≡ false = elim deep [ inl alone ↦ alone_refused re (deep_unread re alone) | inr whole ↦ whole_refused re (deep_unread (anchored re) whole) ] in
    absurd (cc)

-- a fault of the text alone, which is not that the engine refuses a pattern
pub lawful_alone : (re : List ℕ) (f : PatternFault) → (f ≡ Engine → ⊥) → IsRefusedBy re f → IsLawful re f
lawful_alone re Syntax other h = alone_refused re h
lawful_alone re Engine other h = absurd (other refl)
lawful_alone re Memory other h = tt

-- a fault of the text held to the whole, where it is read alone
pub lawful_whole : (re source : List ℕ) (f : PatternFault) → is_read re ≡ true → source ≡ anchored re → IsRefusedBy source f → IsLawful re f
lawful_whole re source Syntax alone e h = whole_refused re (rw e at h)
lawful_whole re source Engine alone e h = both_read re alone (rw e at h)
lawful_whole re source Memory alone e h = tt

-- what the grammar reads within its limit is read
pub read_within : (source : List ℕ) → IsPattern default_config source → is_read source ≡ true
unfolding is_read Reads
read_within source h = within _ (read default_config (chars source)) h.2 (λ x p. p.0)
