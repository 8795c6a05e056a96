-- Words that only proofs and private clauses use.
use Rattle.std.specs.Io.KnownBytes.{IsAtEnd}
use Rattle.std.specs.Prelude.{[], ℕ, List, ◌≡◌, Option, Some, None, ◌++◌, ◌∷◌, Bool, true, false}
use Rattle.{review_words.specs.declared.reply.Reply.Reply, review_machine_rows.specs.Shelf.Shown}
use Rattle.review_machine_deliveries.specs.Delivered.{WasRun}
use Rattle.review_json_lines.specs.Answers.{deliveries, asked}
use Rattle.review_json_lines.specs.{Lines.HasNoEnd, Lines.GaveLine, Lines.line_feed, declared.apply.Asked.Asked}

-- the deliveries of these lines were a run with these replies
abbrev pub IsRunOf : List (List ℕ) → List Reply → Shown → Shown → Type 0
IsRunOf lines replies old new = WasRun (deliveries lines) replies old new

-- what the next line of an input asks for, or none where it has ended
abbrev pub IsNextAsked : Option (List ℕ) → Option (List ℕ) → Option Asked → Type 0
IsNextAsked old new None = IsAtEnd old × IsAtEnd new
IsNextAsked old new (Some a) = (bytes : List ℕ) × (a ≡ asked bytes) × HasNoEnd bytes × GaveLine old new bytes

-- the most reads of an input
abbrev pub most_reads : ℕ
most_reads = 1000000000

-- the bytes of a piece up to the end of a line, or all where no line ends in it
abbrev pub GavePart : Bool → List ℕ → List ℕ → List ℕ → Type 0
GavePart true old new part = old ≡ part ++ line_feed ∷ new
GavePart false old new part = (old ≡ part) × (new ≡ [])
