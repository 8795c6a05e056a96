use Rattle.std.proofs.Common.{◌≡◌, true, false, refl, sym, subst, rules}
use Rattle.review_sql_change_lookups.{proofs.Joining.last_joined, proofs.Placed.last_elsewhere, specs.Joins.IsHeaderAt}
use Rattle.review_sql_change_lookups.proofs.places.tell_last_joined.Goals as goal

pub returns : goal.returns
returns c = λ db great stands.
    let key = c.args.branch.now in
    let is : c.is_placed.result ≡ true = search rules in
    let head = subst (IsHeaderAt c.args.found key.project key.branch) c.from.ensures (c.is_placed.ensures.is is) in
    rw (c.from-2.ensures) (c.args.place, refl, last_joined db key c.args.change c.args.place c.args.found great stands head)

pub returns-then-not-is_placed : goal.returns-then-not-is_placed
returns-then-not-is_placed c = λ db great stands.
    let key = c.args.branch.now in
    let other : c.is_placed.result ≡ false = search rules in
    last_elsewhere db key c.args.change c.args.place c.args.found great stands (λ head. c.is_placed.ensures.other other (subst (IsHeaderAt c.args.found key.project key.branch) (sym c.from.ensures) head))
