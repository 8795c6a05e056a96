use Rattle.std.proofs.Common.{◌≡◌, ◌<◌, ◌≤◌, length}
use Rattle.review_words_texts.specs.inner.Words.{split_after}
use Rattle.review_words_texts.proofs.pieces.first.Given as goal

abbrev pub invariant-loop-rest : goal.invariant-loop-rest
invariant-loop-rest l = record {
  same : split_after l.length l.rest ≡ split_after 0 l.bytes;
  small : l.length < 10000000000;
  left : length l.rest ≤ length l.bytes;
}

abbrev pub decreases-loop-rest : goal.decreases-loop-rest
decreases-loop-rest l = length l.rest
