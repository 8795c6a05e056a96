use Rattle.{std.proofs.Common.refl, review_http_requests.specs.Table.table}
use Rattle.review_http_requests.proofs.table.router.Goals as goal

pub returns : goal.returns
unfolding table
returns c = rw (c.in_ok-insert_each.ensures, c.new-router.ensures) refl
