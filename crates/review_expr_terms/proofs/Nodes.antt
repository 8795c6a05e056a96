-- The equations of `view` at a list.
use Rattle.std.proofs.Common.{◌≡◌, ◌≢◌, Bool, true, false, map, length, Vec, Global, sym, ap, ◌∙◌}
use Rattle.{std.proofs.lemmas.List.length-map, review_expr_terms.proofs.Steps.listed_many}
use Rattle.review_expr_terms.specs.Grammar.{Tree, All, Any, trees, listed}
use Rattle.review_expr_terms.specs.Views.{node, view}
use Rattle.review_expr_terms.specs.declared.tree.Node.{Node, Node-F, fold-roll-Node}
use Rattle.review_expr_terms.specs.declared.tree.Node.TheVariants.{And, Or, rolls-And, rolls-Or}

pub view-And : {A : Type 0} → (es : Vec (Node A) Global) → view (And es) ≡ All (trees (map view es.items))
view-And {A = A} es = ap view (sym (rolls-And es)) ∙ fold-roll-Node A (Tree A) node (Node-F.And es)

pub view-Or : {A : Type 0} → (es : Vec (Node A) Global) → view (Or es) ≡ Any (trees (map view es.items))
view-Or {A = A} es = ap view (sym (rolls-Or es)) ∙ fold-roll-Node A (Tree A) node (Node-F.Or es)

pub all_listed : {A : Type 0} → (es : Vec (Node A) Global) (or : Bool) → or ≡ false → length es.items ≢ 1 → view (And es) ≡ listed or (map view es.items)
all_listed es or e h = view-And es ∙ listed_many false (map view es.items) (λ k. h (sym (length-map es.items view) ∙ k)) ∙ ap (λ b. listed b (map view es.items)) (sym e)

pub any_listed : {A : Type 0} → (es : Vec (Node A) Global) (or : Bool) → or ≡ true → length es.items ≢ 1 → view (Or es) ≡ listed or (map view es.items)
any_listed es or e h = view-Or es ∙ listed_many true (map view es.items) (λ k. h (sym (length-map es.items view) ∙ k)) ∙ ap (λ b. listed b (map view es.items)) (sym e)
