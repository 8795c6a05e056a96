-- The parent of a file.
use Rattle.std.proofs.Common.{◌≡◌, ◌∙◌, ℕ, List, None, cond, sym, ap, option_and_then}
use Rattle.{toml.specs.Data.table, toml.specs.Parse.parse_document, review_expr.specs.declared.expr.Expr.Expr}
use Rattle.review_file_rules.specs.{Reading.IsRead, Reading.named_parent, Spelled.parent_in, View.FileView}

-- the parent of a file is the one that its text names
pub parent_named : (text : List ℕ) (f : FileView Expr) → IsRead text f → f.parent ≡ named_parent text
parent_named text f (short, (ms, parsed, good)) =
    good.0.1.4 ∙ sym (ap (λ o. option_and_then (λ xs. parent_in (table xs)) o) parsed) ∙ sym (ap (λ b. cond b None (option_and_then (λ xs. parent_in (table xs)) (parse_document text))) short)
