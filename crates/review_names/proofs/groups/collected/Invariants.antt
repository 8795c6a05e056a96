use Rattle.std.proofs.Common.{◌≡◌, ℕ, List, ◌++◌}
use Rattle.{std.specs.Vec.vec_len, review_names.specs.Forms.text_set}
use Rattle.review_names.proofs.groups.collected.Given as goal

-- the set is that of the paths that are taken off the end
abbrev pub invariant-loop-path : goal.invariant-loop-path
invariant-loop-path l = (taken : List (List ℕ)) × (l.rest.items ++ taken ≡ l.fn.paths.items) × (l.set.keys ≡ text_set taken)

abbrev pub decreases-loop-path : goal.decreases-loop-path
decreases-loop-path l = vec_len l.rest
