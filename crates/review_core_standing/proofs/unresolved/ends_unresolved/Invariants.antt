use Rattle.std.proofs.Common.{◌≡◌, ℕ, List, ◌++◌, ◌==◌, false}
use Rattle.std.specs.{BTreeSet.contains, List.list_any, Ordering.nat_cmp, Vec.vec_len}
use Rattle.review_core_rules.specs.{Change.has_unresolved, declared.rows.Post.Post}
use Rattle.review_core_standing.proofs.unresolved.ends_unresolved.Given as goal

-- those that are taken off the end leave no thread unresolved, and their threads were seen
abbrev pub invariant-loop-post : goal.invariant-loop-post
invariant-loop-post l = (taken : List Post) × (l.left.items ++ taken ≡ l.fn.posts.items) × (has_unresolved taken ≡ false) × ((r : ℕ) → contains nat_cmp l.seen r ≡ list_any (λ q. q.root == r) taken)

abbrev pub decreases-loop-post : goal.decreases-loop-post
decreases-loop-post l = vec_len l.left
