use Rattle.std.proofs.Common.{◌≡◌, ◌++◌, map, drop, string_bytes}
use Rattle.review_expr_terms.specs.{Grammar.trees, Views.view}
use Rattle.review_expr_printing.specs.{Printed.joined_text, inner.Words.left_text}
use Rattle.review_expr_printing.proofs.printer.+print.Given as goal

abbrev pub invariant-push_members-loop-index : goal.invariant-push_members-loop-index
invariant-push_members-loop-index g l =
    string_bytes l.text ++ left_text g.T.Written.spelling l.sign l.index (trees (map view (drop l.index l.members)))
    ≡ string_bytes l.fn.text ++ joined_text g.T.Written.spelling l.sign (trees (map view l.members))
