use Rattle.std.proofs.Common.{◌≡◌, drop}
use Rattle.review_http_requests.specs.{Table.with_paths, inner.Words.entries}
use Rattle.review_http_requests.proofs.table.insert_each.Given as goal

abbrev pub invariant-loop-text : goal.invariant-loop-text
invariant-loop-text l = with_paths (entries (drop l.text-index l.paths)) l.router ≡ with_paths (entries l.paths) l.fn.router
