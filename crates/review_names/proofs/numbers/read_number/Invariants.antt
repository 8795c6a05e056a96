use Rattle.std.proofs.Common.{◌≡◌, ◌<◌, drop}
use Rattle.review_names.specs.Numerals.{number_after}
use Rattle.review_names.proofs.numbers.read_number.Given as goal

abbrev pub invariant-loop-byte : goal.invariant-loop-byte
invariant-loop-byte l = record {
  rest : number_after l.number (drop l.byte-index l.bytes) ≡ number_after 0 l.bytes;
  fits : l.number < 18446744073709551616;
}
