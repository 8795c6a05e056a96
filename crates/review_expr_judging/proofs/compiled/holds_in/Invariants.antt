use Rattle.std.proofs.Common.{◌≡◌, ◌≤◌, Bool, [], length, map, drop, take}
use Rattle.review_expr_judging.specs.{Postfix.entry, inner.Stack.LeadsTo}
use Rattle.review_expr_judging.proofs.compiled.holds_in.Given as goal

-- what the whole list leads to from nothing, the rest of it leads to from the stack, which has at most as many values as steps were taken
abbrev pub invariant-loop-step : goal.invariant-loop-step
invariant-loop-step g l = record {
  room : length l.room ≡ length l.fn.room;
  few : l.top ≤ l.step-index;
  leads : (b : Bool) → LeadsTo (g.W.Judged.is_held l.facts) [] (map entry l.steps) b → LeadsTo (g.W.Judged.is_held l.facts) (take l.top l.room) (map entry (drop l.step-index l.steps)) b;
}
