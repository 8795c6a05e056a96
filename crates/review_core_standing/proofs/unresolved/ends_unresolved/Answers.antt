use Rattle.std.proofs.Common.{◌≡◌, ◌∷◌, ◌++◌, [], ◌∙◌, true, ap, sym, append_assoc}
use Rattle.{std.proofs.lemmas.Bool.not-true, review_core_rules.specs.Change.has_unresolved}
use Rattle.review_core_standing.proofs.InThreads.{stays_unresolved, unresolved_here}
use Rattle.review_core_standing.proofs.unresolved.ends_unresolved.Goals as goal

pub returns-then-post : goal.returns-then-post
returns-then-post c =
    let h = c.loop-post.invariant in
    let post = c.in-Some.post in
    let left = c.pop.new.self.items in
    let split : left ++ (post ∷ h.0) ≡ c.args.posts.items = sym (append_assoc left (post ∷ []) h.0) ∙ (ap (λ l. l ++ h.0) (sym c.in-Some.ensures.items) ∙ h.1) in
    let last = sym (h.3 post.root) ∙ not-true _ (sym c.in_ok-is_last.ensures.added ∙ c.if-is_last.true) in
    sym (ap has_unresolved (sym split) ∙ stays_unresolved left (post ∷ h.0) (unresolved_here post h.0 last c.if-post.true))
