-- What a text is read as: a project file, or the fault of the least number that applies.
use Rattle.std.specs.{Bool.MatchBool, Option.option_map_or}
use Rattle.std.specs.Prelude.{◌≡◌, ◌&&◌, ℕ, List, length, codes, Bool, true, false, not, nat_lt, if◌then◌else◌, Option, Some, None, is_some, option_and_then}
use Rattle.toml.specs.{Data.Data, Data.Members, Data.table, Data.get, Parse.parse_document}
use Rattle.review_file_document.specs.{Keys.has_unknown_key, Keys.lacks_key, Limits.most_bytes, Limits.is_past_limits}
use Rattle.review_file_document.specs.{Names.has_bad_name, Values.has_value_twice, Values.has_bad_values}
use Rattle.review_words.specs.declared.faults.{ExprCode.TheVariants.BadValue, FileFault.FileFault}
use Rattle.review_expr.specs.declared.expr.Expr.{Expr}
use Rattle.review_file_rules.specs.Expressions.{IsFile, IsStoppedBy, has_unknown_label}
use Rattle.review_file_rules.specs.Spelled.{parent_in, spelled}
use Rattle.review_file_rules.specs.{View.FileView, declared.fault.ReadFault.ReadFault}
use Rattle.review_file_rules.specs.declared.fault.ReadFault.TheVariants.{File, Memory, Pattern}
use Rattle.review_words.specs.declared.faults.FileFault.TheVariants as fault
use Rattle.review_expr.specs.declared.fault.ParseFault.TheVariants as parse

-- the first fault of a document whatever its expressions are
abbrev pub first_fault : Data → Option FileFault
first_fault file =
    if has_unknown_key file then Some fault.UnknownKey
    else if lacks_key file then Some fault.Missing
    else if has_bad_name file then Some fault.BadName
    else if has_value_twice file then Some fault.Twice
    else if has_bad_values file then Some fault.BadValues
    else None

-- a document without these first faults spells a file
abbrev pub HasFile : Data → FileView Expr → Type 0
HasFile file f = (first_fault file ≡ None) × IsFile (spelled file) f

-- a document spells a file, names no unknown label and is past no limit
abbrev pub IsFaultless : Data → FileView Expr → Type 0
IsFaultless file f = HasFile file f × (has_unknown_label f ≡ false) × (is_past_limits file ≡ false)

-- a fault has the least number of all that a document has
abbrev pub IsLeast : Data → FileFault → Type 0
IsLeast file (fault.Expr e) = (first_fault file ≡ None) × IsStoppedBy (spelled file) (parse.Text e)
IsLeast file fault.UnknownLabel = (f : FileView Expr) × HasFile file f × (has_unknown_label f ≡ true)
IsLeast file fault.Limit = (f : FileView Expr) × HasFile file f × (has_unknown_label f ≡ false) × (is_past_limits file ≡ true)
IsLeast file f = first_fault file ≡ Some f

-- a fault is that a value in an expression is bad
abbrev pub IsBadValue : FileFault → Type 0
IsBadValue (fault.Expr e) = e.code ≡ BadValue
IsBadValue f = ⊥

-- a document is refused so; for a pattern where the first expression that isn't read has one
abbrev pub IsDocumentFault : Data → ReadFault → Type 0
IsDocumentFault file Memory = Unit {0}
IsDocumentFault file (File f) = IsLeast file f
IsDocumentFault file Pattern = (first_fault file ≡ None) × IsStoppedBy (spelled file) parse.Pattern

-- a text that is this document, or none, is refused so
abbrev pub IsRefused : Option Members → ReadFault → Type 0
IsRefused None f = f ≡ File fault.Toml
IsRefused (Some ms) f = IsDocumentFault (table ms) f

-- A text is refused so: for LIMIT alone where it is too long to be read, and otherwise for its first fault.
abbrev pub IsReadFault : List ℕ → ReadFault → Type 0
IsReadFault text Memory = Unit {0}
IsReadFault text f = MatchBool (nat_lt most_bytes (length text)) (f ≡ File fault.Limit) (IsRefused (parse_document text) f)

-- A text is no file, for this fault.
abbrev pub IsFileFault : List ℕ → FileFault → Type 0
IsFileFault text f = IsReadFault text (File f)

-- the parent that a text names; none where it is too long to be read, or no document
abbrev pub named_parent : List ℕ → Option (List ℕ)
named_parent text = if nat_lt most_bytes (length text) then None else option_and_then (λ ms. parent_in (table ms)) (parse_document text)

-- a text has the key `parent`, whatever its value
abbrev pub has_parent_key : List ℕ → Bool
has_parent_key text = not (nat_lt most_bytes (length text)) && option_map_or (λ ms. is_some (get (codes "parent") (table ms))) (parse_document text) false

-- A text is a project file: it spells one, names no unknown label and is past no limit.
abbrev pub IsRead : List ℕ → FileView Expr → Type 0
IsRead text f = (nat_lt most_bytes (length text) ≡ false) × ((ms : Members) × (parse_document text ≡ Some ms) × IsFaultless (table ms) f)
