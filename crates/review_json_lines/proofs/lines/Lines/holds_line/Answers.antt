use Rattle.std.proofs.Common.{ℕ, List, subst}
use Rattle.{memchr.specs.Find.IsFirstByte, memchr.specs.Find.is_byte, review_json_lines.proofs.Begun.holds_end}
use Rattle.review_json_lines.proofs.lines.Lines.holds_line.Goals as goal

pub returns : goal.returns
returns g c =
    let found : IsFirstByte (is_byte 10) c.args.self.now.piece c.memchr.result = subst (λ (l : List ℕ). IsFirstByte (is_byte 10) l c.memchr.result) c.as_slice.ensures c.memchr.ensures in
    rw c.is_some.ensures (holds_end _ _ found)
