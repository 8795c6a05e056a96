use Rattle.std.proofs.Common.{◌≡◌, Some, None, true, false, subst, rules}
use Rattle.review_sql_change_lookups.proofs.{Joined.joined_is, Placed.elsewhere_damaged, Placed.without_damaged}
use Rattle.review_sql_change_lookups.specs.Joins.{TellsCurrent}
use Rattle.review_sql_change_lookups.proofs.joins.joined_at.Goals as goal

pub returns-in-Some : goal.returns-in-Some
returns-in-Some c = λ db at stands knows.
    let known : c.args.patch ≡ Some c.in-Some.patch = search rules in
    let is : c.is_placed.result ≡ true = search rules in
    joined_is db c.args.key.now c.args.change c.args.header c.args.patch c.in-Some.patch (c.is_placed.ensures.is is) known c.requires at stands knows

pub returns : goal.returns
returns c = λ db at stands knows.
    let none : c.args.patch ≡ None = search rules in
    without_damaged db c.args.key.now c.args.change c.requires at (subst (TellsCurrent c.args.change db) none knows)

pub returns-then-not-is_placed : goal.returns-then-not-is_placed
returns-then-not-is_placed c = λ db at stands knows.
    let other : c.is_placed.result ≡ false = search rules in
    elsewhere_damaged db c.args.key.now c.args.change c.args.header at stands (c.is_placed.ensures.other other)
