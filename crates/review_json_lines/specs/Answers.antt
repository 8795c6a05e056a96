-- What the lines of an input ask for, and what is answered to them.
use Rattle.std.specs.{Io.KnownBytes.Appends, List.list_all}
use Rattle.std.specs.Prelude.{[], ℕ, List, ◌∷◌, ◌==◌, if◌then◌else◌, Option, Some, None, length, nat_lt, ◌++◌, codes, Bool, true, false, ◌&&◌, ◌≡◌, ◌≤◌, Result, IfOk, IfErr}
use Rattle.serde_json.specs.Written.{compact_text}
use Rattle.review_words.specs.declared.{command.Delivery.Delivery, reply.Reply.Reply, reply.Reply.TheVariants.NotTaken}
use Rattle.review_json.specs.{Answer.reply_data, Line.delivery_spelled}
use Rattle.review_json_lines.specs.{Lines.line_feed, Lines.most_bytes, Lines.is_space, declared.apply.Asked.Asked}
use Rattle.review_json_lines.specs.declared.apply.Asked.TheVariants.{Unreadable, Asks, Nothing}
use Rattle.review_json_lines.specs.declared.fault.{Fault.Fault, Outcome.Outcome}
use Rattle.review_json_lines.specs.declared.fault.Outcome.TheVariants.{Complete, Incomplete}
use Rattle.review_json_lines.specs.declared.fault.Fault.TheVariants as fault

-- the lines with one byte more at the front of the first
abbrev pub with_first : ℕ → List (List ℕ) → List (List ℕ)
with_first b [] = (b ∷ []) ∷ []
with_first b (line ∷ lines) = (b ∷ line) ∷ lines

-- the lines of an input: each ends in a line feed, which the last may lack
abbrev pub lines_of : List ℕ → List (List ℕ)
lines_of [] = []
lines_of (b ∷ bytes) = if b == line_feed then [] ∷ lines_of bytes else with_first b (lines_of bytes)

-- what a line asks that may spell a delivery
abbrev pub if_spelled : Option Delivery → Asked
if_spelled None = Unreadable
if_spelled (Some d) = Asks d

-- what a line asks for: one that is too long is unreadable, a blank one asks for nothing, and any other for the delivery that it spells
abbrev pub asked : List ℕ → Asked
asked line = if nat_lt most_bytes (length line) then Unreadable else (if list_all is_space line then Nothing else if_spelled (delivery_spelled line))

-- the deliveries of the later lines with that of this one in front, where it asks one
abbrev pub with_asked : Asked → List Delivery → List Delivery
with_asked (Asks d) ds = d ∷ ds
with_asked _ ds = ds

-- the deliveries that lines ask for
abbrev pub deliveries : List (List ℕ) → List Delivery
deliveries [] = []
deliveries (line ∷ lines) = with_asked (asked line) (deliveries lines)

-- the text of a reply, a line of its own
unfoldable pub reply_line : Reply → List ℕ
reply_line r = compact_text (reply_data r) ++ line_feed ∷ []

-- what a line is told that asks for no delivery and isn't blank
unfoldable pub bad_line : List ℕ
bad_line = codes "{\"fault\":\"BAD_LINE\"}\n"

-- the answer to one line, and then those to the later ones
abbrev pub answered : Asked → List Reply → (List Reply → List ℕ) → List ℕ
answered Nothing rs later = later rs
answered Unreadable rs later = bad_line ++ later rs
answered (Asks d) [] later = []
answered (Asks d) (r ∷ rs) later = reply_line r ++ later rs

-- the answers to lines: for each delivery its reply, for a bad line that it is one
abbrev pub answers : List (List ℕ) → List Reply → List ℕ
answers [] rs = []
answers (line ∷ lines) rs = answered (asked line) rs (answers lines)

-- whether a reply says that its delivery was taken
abbrev pub is_taken : Reply → Bool
is_taken (NotTaken cause) = false
is_taken _ = true

-- whether a line was blank, or a delivery that was taken, and what comes later is as said
abbrev pub is_done : Asked → List Reply → (List Reply → Bool) → Bool
is_done Nothing rs later = later rs
is_done Unreadable rs later = false
is_done (Asks d) [] later = false
is_done (Asks d) (r ∷ rs) later = is_taken r && later rs

-- whether each line was blank, or a delivery that was taken
abbrev pub all_done : List (List ℕ) → List Reply → Bool
all_done [] rs = true
all_done (line ∷ lines) rs = is_done (asked line) rs (all_done lines)

-- whether an outcome says that each line was blank or taken
abbrev pub is_complete : Outcome → Bool
is_complete Complete = true
is_complete Incomplete = false

-- these are all lines of an input
abbrev pub HasLines : Option (List ℕ) → List (List ℕ) → Type 0
HasLines None lines = Unit {0}
HasLines (Some xs) lines = lines_of xs ≡ lines

-- these are the first lines of an input
abbrev pub HasFirst : Option (List ℕ) → List (List ℕ) → Type 0
HasFirst None lines = Unit {0}
HasFirst (Some xs) lines = (more : List (List ℕ)) × (lines_of xs ≡ lines ++ more)

-- these bytes are a first part of those
abbrev pub IsPartOf : List ℕ → List ℕ → Type 0
IsPartOf text whole = (rest : List ℕ) × (whole ≡ text ++ rest)

-- What a fault leaves of the answers to the lines: where the input failed, all; where there was no memory, those to all lines but at
-- most the last; where the output failed, some first part of them.
abbrev pub IsLeftBy : Fault → List (List ℕ) → List Reply → List ℕ → Type 0
IsLeftBy fault.Input lines rs text = text ≡ answers lines rs
IsLeftBy fault.Memory lines rs text = (before last : List (List ℕ)) × (lines ≡ before ++ last) × (length last ≤ 1) × (text ≡ answers before rs)
IsLeftBy fault.Output lines rs text = IsPartOf text (answers lines rs)

-- The first lines of an input, all where no fault came, asked for deliveries to which this was done, each with a reply; what was written are their answers, all of them unless a fault says otherwise.
pub record WereAnswered (Did : List Delivery → List Reply → Type 0) (input before after : Option (List ℕ)) (told : Result Outcome Fault) : Type 0 where
  pub lines : List (List ℕ)
  pub replies : List Reply
  pub first : HasFirst input lines
  pub each : length replies ≡ length (deliveries lines)
  pub did : Did (deliveries lines) replies
  pub text : List ℕ
  pub written : Appends before after text
  pub whole : IfOk told (λ outcome. HasLines input lines × (text ≡ answers lines replies) × (is_complete outcome ≡ all_done lines replies))
  pub left : IfErr told (λ fault. IsLeftBy fault lines replies text)
