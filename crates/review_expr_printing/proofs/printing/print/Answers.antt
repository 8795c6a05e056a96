use Rattle.review_expr_terms.specs.Views.{view}
use Rattle.review_expr_spelling.specs.Words.{copy_reading, requirement_reading}
use Rattle.review_expr_printing.proofs.{Again.printed_again, CopyWords.copy_again, CopyWords.copy_stands}
use Rattle.review_expr_printing.proofs.RequirementWords.{requirement_again, requirement_stands}
use Rattle.review_expr_printing.specs.Written.{copy_word, requirement_word}
use Rattle.review_expr_printing.proofs.printing.print.Goals as goal

pub returns-in-Requirement-clause-again : goal.returns-in-Requirement-clause-again
returns-in-Requirement-clause-again c =
    let e = c.in-Requirement.expression in
    rw c.in-Requirement.is (printed_again requirement_reading requirement_word requirement_again requirement_stands c.print_expression.result (view e.node) e.of_text c.print_expression.ensures)

pub returns-in-Copy-clause-again : goal.returns-in-Copy-clause-again
returns-in-Copy-clause-again c =
    let e = c.in-Copy.expression in
    rw c.in-Copy.is (printed_again copy_reading copy_word copy_again copy_stands c.print_expression-in-Copy.result (view e.node) e.of_text c.print_expression-in-Copy.ensures)
