use Rattle.std.proofs.Common.{◌≡◌, take}
use Rattle.review_names.proofs.groups.Paths.copy.Given as goal

abbrev pub invariant-loop-path : goal.invariant-loop-path
invariant-loop-path l = l.paths.items ≡ take l.path-index l.path-items
