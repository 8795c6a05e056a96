use Rattle.std.proofs.Common.{◌∙◌, ◌==◌, ap, lit<, refl}
use Rattle.std.proofs.lemmas.Iterator.{Consumers.nth_from_yields_List, Splits.YieldsList-from_str_split}
use Rattle.{std.specs.List.slice_split, review_http_requests.proofs.Given.at_or_nothing}
use Rattle.review_http_requests.proofs.routing.segment.Goals as goal

pub returns : goal.returns
returns c =
    let found = nth_from_yields_List _ _ c.args.index c.nth.ensures.ran (YieldsList-from_str_split 47 c.args.path.now (lit< tt) c.split.ensures.text c.split.ensures.has_more c.split.ensures.pattern) in
    ap (λ x. x.now) c.unwrap_or.ensures ∙ at_or_nothing (slice_split (λ b. b == 47) c.args.path.now) c.args.index _ _ found refl
