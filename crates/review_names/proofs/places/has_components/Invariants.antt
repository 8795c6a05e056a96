use denote.Shadow.{shadow}
use denote.Text.{Utf8}
use Rattle.std.proofs.Common.{◌≡◌, length}
use Rattle.{std.specs.List.list_all, review_names.specs.Forms.components}
use Rattle.review_names.proofs.places.has_components.Given as goal

abbrev pub invariant-loop-component : goal.invariant-loop-component
invariant-loop-component g l = record {
  left : list_all g.F.Form.is_form (components l.rest) ≡ list_all g.F.Form.is_form (components l.fn.text);
  utf8 : shadow (Utf8 l.rest);
}

abbrev pub decreases-loop-component : goal.decreases-loop-component
decreases-loop-component g l = length l.rest
