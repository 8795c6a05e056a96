use Rattle.{std.proofs.Common.◌≡◌, std.proofs.Common.drop, std.proofs.Common.true, review_names.specs.Forms.goes_on}
use Rattle.review_names.proofs.places.is_label_to_end.Given as goal

abbrev pub invariant-loop-byte : goal.invariant-loop-byte
invariant-loop-byte l = goes_on l.letter (drop l.byte-index l.bytes) ≡ goes_on true l.bytes
