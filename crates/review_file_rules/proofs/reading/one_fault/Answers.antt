use Rattle.review_file_rules.proofs.Together.{one_refusal}
use Rattle.review_file_rules.proofs.reading.one_fault.Goals as goal

pub returns : goal.returns
returns c = one_refusal
