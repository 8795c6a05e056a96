use Rattle.std.proofs.Common.{◌≡◌, ◌++◌, drop, map}
use Rattle.{json.specs.Tree.items_tokens, serde_json.specs.View.items_of, serde_json.specs.Written.items_outline}
use Rattle.review_json.proofs.text.JsonText.list.Given as goal

-- the text with the items that are left is the text before with all of them
abbrev pub invariant-loop-item : goal.invariant-loop-item
invariant-loop-item g l = l.self ++ items_tokens (items_outline (items_of (map g.T.Written.value_of (drop l.item-index l.items)))) ≡ l.initial.self ++ items_tokens (items_outline (items_of (map g.T.Written.value_of l.items)))
