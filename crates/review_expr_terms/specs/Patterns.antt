-- When a text is a pattern, and when it matches a whole text.
use Rattle.std.specs.Prelude.{ℕ, List, ◌++◌, codes, Bool, false, Option, Some, None, is_some, chars, nat_le, ◌&&◌, ◌<◌, IsSomeAnd, ◌⊎◌, ◌≡◌, true}
use Rattle.regex.specs.Patterns.{find_str, default_config}
use Rattle.regex.specs.Strings.{regex_source, regex_config, IsReadFromSource}
use Rattle.{regex.specs.declared.string.regex.Regex.Regex, regex_hir.specs.Re.Re}
use Rattle.regex_syntax.specs.{Brackets.Nested, Grammar.Names, Grammar.read}
use Rattle.review_expr_terms.specs.declared.pattern.PatternFault.{PatternFault}
use Rattle.review_expr_terms.specs.declared.pattern.PatternFault.TheVariants.{Syntax, Engine, Memory}

-- the pattern held to the whole of a text
abbrev pub anchored : List ℕ → List ℕ
anchored re = codes "\\A(?:" ++ re ++ codes ")\\z"

-- what was read of a pattern has a match in a text
abbrev pub found_by : Option (Nested Re × Names) → List ℕ → Bool
found_by None hay = false
found_by (Some found) hay = is_some (find_str found.0.value hay 0)

-- what the grammar of `regex` reads in a text has a match in the other
abbrev pub has_match : List ℕ → List ℕ → Bool
has_match source hay = found_by (read default_config (chars source)) hay

-- the whole text matches
abbrev pub matches_whole : List ℕ → List ℕ → Bool
matches_whole re text = has_match (anchored re) text

-- what was read of a text nests no deeper than `regex` reads
abbrev pub is_within : Option (Nested Re × Names) → Bool
is_within None = false
is_within (Some found) = nat_le found.0.depth default_config.nest_limit

-- the grammar of `regex` reads the text, within its limit on nesting
unfoldable pub is_read : List ℕ → Bool
is_read source = is_within (read default_config (chars source))

-- a pattern: the text is read alone, and held to the whole
unfoldable pub is_pattern : List ℕ → Bool
is_pattern re = is_read re && is_read (anchored re)

-- the grammar of `regex` reads the text, and it nests deeper than the engine reads
unfoldable pub NestsTooDeep : List ℕ → Type 0
NestsTooDeep source = IsSomeAnd (read default_config (chars source)) (λ found. default_config.nest_limit < found.0.depth)

-- a text that would be a pattern, and nests deeper than `regex` reads, alone or held to the whole
abbrev pub IsDeepPattern : List ℕ → Type 0
IsDeepPattern re = NestsTooDeep re ⊎ NestsTooDeep (anchored re)

-- A pattern. The engine may refuse it all the same, as for its size.
abbrev pub IsEnginePattern : List ℕ → Type 0
IsEnginePattern re = is_pattern re ≡ true

-- a compiled pattern is that of the text
abbrev pub IsReadFrom : List ℕ → Regex → Type 0
IsReadFrom source r = (regex_source r ≡ source) × (regex_config r ≡ default_config) × IsReadFromSource r

-- a compiled pattern is the text held to the whole
abbrev pub IsHeld : List ℕ → Regex → Type 0
IsHeld text r = IsReadFrom (anchored text) r

-- which fault may be given for a pattern
abbrev pub IsLawful : List ℕ → PatternFault → Type 0
IsLawful re Syntax = is_pattern re ≡ false
IsLawful re Engine = IsEnginePattern re
IsLawful re Memory = Unit {0}
