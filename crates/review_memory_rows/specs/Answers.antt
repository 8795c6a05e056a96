-- Stored requests by their identities, and which of them are of lower epochs.
use Rattle.std.specs.{BTreeMap.is_at, Cmp.Lexicographic.slice_cmp, List.list_any}
use Rattle.std.specs.Ordering.{nat_cmp, ordering_then}
use Rattle.std.specs.Prelude.{Bool, nat_lt, flat_map, ◌++◌, if◌then◌else◌, ℕ, List, [], ◌∷◌, Option, Some, None}
use Rattle.{std.specs.declared.cmp.Ordering.Ordering, review_words.specs.History.Identity}
use Rattle.review_memory_rows.specs.declared.answer_keys.{AnswerKey.AnswerKey, StoredAnswer.StoredAnswer}

-- by epoch, then by caller, then by id
abbrev pub answer_cmp : AnswerKey → AnswerKey → Ordering
answer_cmp a b = ordering_then (nat_cmp a.epoch b.epoch) (ordering_then (nat_cmp a.caller b.caller) (slice_cmp nat_cmp a.id b.id))

-- the key of an identity
abbrev pub key_of : Identity → AnswerKey
key_of i = record { epoch = i.epoch; caller = i.caller; id = i.id }

-- whether a key is among these
abbrev pub is_among : List AnswerKey → AnswerKey → Bool
is_among keys q = list_any (λ k. is_at (answer_cmp k) q) keys

-- a key, where its epoch is below the least open one
abbrev pub if_lower : ℕ → AnswerKey → List AnswerKey
if_lower least k = if nat_lt k.epoch least then k ∷ [] else []

-- the keys of rows whose epochs are below the least open one
abbrev pub lower : ℕ → List (AnswerKey × StoredAnswer) → List AnswerKey
lower least rows = flat_map (λ e. if_lower least e.0) rows

-- the keys of what is given up where an epoch is named: of rows, and of the request that is stored
abbrev pub lower_of : Option ℕ → List (AnswerKey × StoredAnswer) → AnswerKey → List AnswerKey
lower_of None rows kept = []
lower_of (Some least) rows kept = lower least rows ++ if_lower least kept
