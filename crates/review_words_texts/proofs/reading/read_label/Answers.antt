use Rattle.review_words_texts.proofs.Labels.{no_label}
use Rattle.review_words_texts.proofs.reading.read_label.Goals as goal

pub returns-in_default-clause-name : goal.returns-in_default-clause-name
returns-in_default-clause-name c = no_label _ c.in_default.ensures.cases.0
