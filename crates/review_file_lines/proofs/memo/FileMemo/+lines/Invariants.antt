use Rattle.std.proofs.Common.{◌+◌, ◌*◌, length}
use Rattle.review_file_lines.proofs.memo.FileMemo.+lines.Given as goal

abbrev pub decreases-get : goal.decreases-get
decreases-get l = 3 * length l.above.now + 2

abbrev pub decreases-read : goal.decreases-read
decreases-read l = 3 * length l.above.now + 1

abbrev pub decreases-after : goal.decreases-after
decreases-after l = 3 * length l.above.now
