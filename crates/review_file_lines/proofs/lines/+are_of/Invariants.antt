use Rattle.std.proofs.Common.{length}
use Rattle.review_file_lines.proofs.lines.+are_of.Given as goal

abbrev pub decreases-are_of : goal.decreases-are_of
decreases-are_of l = length l.texts.now
