use Rattle.review_file_rules.proofs.Placed.{place_of}
use Rattle.review_file_rules.proofs.reading.place_within.Goals as goal

pub returns : goal.returns
returns c = place_of
