-- Two readings of one text find alike.
use Rattle.std.proofs.Common.{◌≡◌, ℕ, ◌≤◌, ◌<◌, List, length, All, Option, None, Some, IsSomeAnd, is_some, sym, ap, ◌∙◌}
use Rattle.std.specs.Str.{chars}
use Rattle.regex.specs.{Names.names_of, Strings.regex_pattern, declared.string.regex.Regex.Regex}
use Rattle.regex_hir.specs.{Find.find_str, Meaning.meaning, Re.Re, declared.hir.Hir.Hir}
use Rattle.regex_syntax.proofs.{CapturesLemmas.spans, CapturesLemmas.find_str_alike, Written.is_some-option_map}
use Rattle.regex_syntax.specs.{Brackets.Nested, Captures.SameCaptures, Grammar.Names, Grammar.read, Grammar.group_count}
use Rattle.regex_syntax.specs.Verdict.{Reads, default_config}
use Rattle.review_expr_terms.specs.Patterns.{found_by, has_match, IsReadFrom, IsHeld, anchored, matches_whole}

abbrev IsReading : ℕ → Re → Names → Nested Re × Names → Type 0
IsReading limit a names found = (found.0.depth ≤ limit) × SameCaptures a found.0.value × (names ≡ found.1) × (group_count a ≤ length names)

found_alike : (o : Option (Nested Re × Names)) (limit : ℕ) (a : Re) (m : Names) → IsSomeAnd o (IsReading limit a m) →
    (hay : List ℕ) → All (λ x. x < 256) hay → is_some (find_str a hay 0) ≡ found_by o hay
found_alike None limit a m p hay ok = absurd p
found_alike (Some found) limit a m p hay ok =
    sym (is_some-option_map spans _) ∙ ap is_some (find_str_alike a found.0.value p.1 hay ok 0) ∙ is_some-option_map spans _

reads_alike : (source : List ℕ) (hir : Hir) (names : Names) → Reads default_config source hir names →
    (hay : List ℕ) → All (λ x. x < 256) hay → is_some (find_str (meaning hir) hay 0) ≡ has_match source hay
unfolding Reads
reads_alike source hir names p hay ok =
    found_alike (read default_config (chars source)) default_config.nest_limit (meaning hir) names p hay ok

held : (source : List ℕ) (r : Regex) → IsReadFrom source r →
    Reads default_config source r.pattern.program.hir (names_of r.pattern.names.items)
held source r h = rw (h.0, h.1) at h.2

pub has_match_of : (source : List ℕ) (r : Regex) → IsReadFrom source r → (hay : List ℕ) → All (λ x. x < 256) hay →
    is_some (find_str (regex_pattern r) hay 0) ≡ has_match source hay
has_match_of source r h hay ok = reads_alike source r.pattern.program.hir _ (held source r h) hay ok

-- what a matcher of a held pattern finds
pub whole_of : (re : List ℕ) (r : Regex) (p q : Re) → IsHeld re r → p ≡ q → q ≡ regex_pattern r → (hay : List ℕ) → All (λ x. x < 256) hay →
    is_some (find_str p hay 0) ≡ matches_whole re hay
whole_of re r p q h e f hay ok = ap (λ a. is_some (find_str a hay 0)) (e ∙ f) ∙ has_match_of (anchored re) r h hay ok
