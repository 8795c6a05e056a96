use denote.Bor.{Bor}
use Rattle.std.proofs.Common.{◌≡◌, ℕ, List, ◌++◌, map}
use Rattle.{std.specs.Vec.vec_len, review_names.specs.Forms.text_set}
use Rattle.review_expr_judging.proofs.labels.set_of.Given as goal

-- the set is that of the names that are taken off the end
abbrev pub invariant-loop-name : goal.invariant-loop-name
invariant-loop-name l = (taken : List (Bor (List ℕ))) × (l.rest.items ++ taken ≡ l.fn.names.items) × (l.set.keys ≡ text_set (map (λ n. n.now) taken))

abbrev pub decreases-loop-name : goal.decreases-loop-name
decreases-loop-name l = vec_len l.rest
