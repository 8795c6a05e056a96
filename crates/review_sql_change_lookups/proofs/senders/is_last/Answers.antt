use Rattle.std.proofs.Common.{◌≡◌, Some, None, subst, rules}
use Rattle.{review_sql_tables.specs.Search.HasGreatest, review_sql_change_records.specs.Forms.patch_numbers}
use Rattle.review_sql_change_lookups.proofs.{Current.alone_told, Current.last_told, Placed.last_set_damaged}
use Rattle.review_sql_change_lookups.proofs.senders.is_last.Goals as goal

pub returns-in-Some-Some : goal.returns-in-Some-Some
returns-in-Some-Some c = λ n db great.
    let q = c.in-Some-Some.last in
    let some : c.args.found ≡ Some (Some q) = search rules in
    last_told db n c.args.patch q _ (search rules) (subst (HasGreatest patch_numbers 2 n db) some great)

pub returns-in-None : goal.returns-in-None
returns-in-None c = λ n db great.
    let none : c.args.found ≡ None = search rules in
    alone_told db n c.args.patch (subst (HasGreatest patch_numbers 2 n db) none great)

pub returns-in-Some-None : goal.returns-in-Some-None
returns-in-Some-None c = λ n db great.
    let odd : c.args.found ≡ Some None = search rules in
    last_set_damaged db n (subst (HasGreatest patch_numbers 2 n db) odd great)
