use Rattle.review_file_rules.proofs.{Together.same_covers, Trees.one_file}
use Rattle.review_file_rules.proofs.reading.one_file.Goals as goal

pub returns-clause-trees : goal.returns-clause-trees
returns-clause-trees c = one_file c.one_expression.ensures c.one_expression-2.ensures

pub returns-clause-covers : goal.returns-clause-covers
returns-clause-covers c = same_covers
