use Rattle.review_file_rules.proofs.Trees.{one_effective}
use Rattle.review_file_rules.proofs.inheritance_laws.one_effective_file.Goals as goal

pub returns : goal.returns
returns c = one_effective c.one_file.ensures.trees
