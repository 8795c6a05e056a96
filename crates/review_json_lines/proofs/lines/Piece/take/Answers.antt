use Rattle.std.proofs.Common.{ℕ, List, ◌≤◌, ◌∙◌, length, drop, slice_range, sym, ap, subst}
use Rattle.review_json_lines.proofs.Begun.{advanced}
use Rattle.review_json_lines.proofs.lines.Piece.take.Goals as goal

pub returns : goal.returns
returns c =
    let few : c.args.count ≤ length (slice_range c.self.inside.bytes.items c.self.inside.start c.self.inside.end) =
    subst (λ (l : List ℕ). c.args.count ≤ length l) (sym c.self.view_is) c.requires in
    advanced c.self.inside.bytes.items c.self.inside.start c.self.inside.end c.args.count few ∙ ap (drop c.args.count) c.self.view_is
