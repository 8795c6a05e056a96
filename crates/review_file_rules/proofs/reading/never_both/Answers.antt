use Rattle.review_file_rules.proofs.Together.{never_both}
use Rattle.review_file_rules.proofs.reading.never_both.Goals as goal

pub returns : goal.returns
returns c = never_both
