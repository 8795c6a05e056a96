-- The table of paths, computed.
use Rattle.{std.proofs.Common.refl, matchit.specs.Route.scan}
use Rattle.review_http_requests.specs.Table.{HoldsEachPath, table, with_path}

pub whole : HoldsEachPath
unfolding table with_path scan
whole = refl
