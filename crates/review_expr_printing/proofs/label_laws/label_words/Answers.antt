use Rattle.review_expr_printing.proofs.WholeWords.{label_words}
use Rattle.review_expr_printing.proofs.label_laws.label_words.Goals as goal

pub returns : goal.returns
returns c = label_words
