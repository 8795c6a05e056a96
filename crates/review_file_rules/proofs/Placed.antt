-- A fault's place is below 2^64.
use Rattle.std.proofs.Common.{◌≡◌, inl, inr, ℕ, ◌≤◌, Bool, true, false, List, [], ◌∷◌, Option, Some, None, arith, MatchBool, length, nat_lt}
use Rattle.toml.specs.{Data.Members, Data.table, Parse.parse_document}
use Rattle.review_file_document.specs.Limits.{most_bytes}
use Rattle.review_words.specs.{Texts.IsPlaced, declared.faults.ExprFault.ExprFault}
use Rattle.review_words.specs.declared.faults.FileFault.{FileFault, TheVariants.Limit, TheVariants.Expr as Faulty}
use Rattle.review_expr_spelling.specs.Words.{requirement_reading, copy_reading, IsDeep}
use Rattle.review_expr.proofs.Within.{place_within}
use Rattle.review_expr.specs.Exprs.{IsCopyOf, IsRequirementOf, NoWord}
use Rattle.review_file_rules.specs.Expressions.{FirstFault, IsNoCopy, IsNoRequirement, IsStoppedBy, copy_texts, requirement_texts}
use Rattle.review_file_rules.specs.Reading.{IsRefused, IsFileFault}
use Rattle.review_file_rules.specs.{Spelled.spelled, View.FileView, declared.fault.ReadFault.TheVariants.File}
use Rattle.review_expr.specs.declared.fault.ParseFault.TheVariants as parse

copy_placed : (texts : List (List ℕ)) (e : ExprFault) → FirstFault IsCopyOf IsNoCopy texts (parse.Text e) → e.place ≤ 4096
copy_placed [] e h = absurd h
copy_placed (text ∷ texts) e (inl h) = (place_within copy_reading NoWord text e.place e.code h).1
copy_placed (text ∷ texts) e (inr h) = copy_placed texts e h.1

requirement_placed : (texts : List (List ℕ)) (e : ExprFault) → FirstFault IsRequirementOf IsNoRequirement texts (parse.Text e) → e.place ≤ 4096
requirement_placed [] e h = absurd h
requirement_placed (text ∷ texts) e (inl h) = (place_within requirement_reading IsDeep text e.place e.code h).1
requirement_placed (text ∷ texts) e (inr h) = requirement_placed texts e h.1

stop_placed : (p : FileView (List ℕ)) (e : ExprFault) → IsStoppedBy p (parse.Text e) → e.place ≤ 4096
stop_placed p e (inl h) = copy_placed (copy_texts p.labels) e h
stop_placed p e (inr h) = requirement_placed (requirement_texts p.requirements) e h.1

refused_placed : (o : Option Members) (e : ExprFault) → IsRefused o (File (Faulty e)) → e.place ≤ 4096
refused_placed None e h = absurd (cc)
refused_placed (Some ms) e h = stop_placed (spelled (table ms)) e h.1

placed_by : (long : Bool) (o : Option Members) (e : ExprFault) → MatchBool long (File (Faulty e) ≡ File Limit) (IsRefused o (File (Faulty e))) → e.place ≤ 4096
placed_by true o e h = absurd (cc)
placed_by false o e h = refused_placed o e h

-- the place of a faulty expression's fault is within the longest expression
pub place_of : (text : List ℕ) (e : ExprFault) → IsFileFault text (Faulty e) → e.place ≤ 4096
place_of text e h = placed_by (nat_lt most_bytes (length text)) (parse_document text) e h

pub placed : (text : List ℕ) (f : FileFault) → IsFileFault text f → IsPlaced f
placed text (Faulty e) h = omega (arith, place_of text e h)
placed text _ h = tt
