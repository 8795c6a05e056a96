use Rattle.std.{proofs.Common.◌≡◌, proofs.Common.drop, specs.List.All}
use Rattle.review_expr_terms.specs.Scanned.{lexemes, IsWithin}
use Rattle.review_expr_terms.specs.inner.{Scan.scan, Scan.put, Scan.Between, Words.mode_of, Words.IsBehind}
use Rattle.review_expr_terms.proofs.lexemes.scanned.Given as goal

abbrev pub invariant-loop-at : goal.invariant-loop-at
invariant-loop-at l = record {
  kept : put (lexemes l.text l.scanner.pieces.items) (scan (mode_of l.text l.at l.scanner.start l.scanner.quoted) l.at (drop l.at l.text)) ≡ scan Between 0 l.text;
  behind : IsBehind l.scanner l.at;
  held : All (IsWithin l.text) l.scanner.pieces.items;
}
