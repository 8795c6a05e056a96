use Rattle.review_names.proofs.Numerals.{number_told}
use Rattle.review_names.proofs.laws.number_tells.Goals as goal

pub returns : goal.returns
returns c = number_told
