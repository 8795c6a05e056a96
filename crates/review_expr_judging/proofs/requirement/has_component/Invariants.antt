use denote.Shadow.{shadow}
use denote.Text.{Utf8}
use Rattle.std.proofs.Common.{◌≡◌, length}
use Rattle.{std.specs.List.list_any, std.specs.Str.bytes_eq, review_names.specs.Forms.components}
use Rattle.review_expr_judging.proofs.requirement.has_component.Given as goal

abbrev pub invariant-loop-component : goal.invariant-loop-component
invariant-loop-component l = record {
  left : list_any (λ part. bytes_eq part l.name) (components l.rest) ≡ list_any (λ part. bytes_eq part l.fn.name) (components l.fn.path);
  utf8 : shadow (Utf8 l.rest);
}

abbrev pub decreases-loop-component : goal.decreases-loop-component
decreases-loop-component l = length l.rest
