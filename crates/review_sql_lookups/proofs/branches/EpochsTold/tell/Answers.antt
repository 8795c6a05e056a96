use Rattle.std.proofs.Common.{◌≡◌, ◌∙◌, Some, None, inl, inr, sym, rules}
use Rattle.review_sql_lookups.proofs.Odd.{epochs_damaged}
use Rattle.review_sql_lookups.proofs.branches.EpochsTold.tell.Goals as goal

pub returns-in-Some-None : goal.returns-in-Some-None
returns-in-Some-None c = λ key db is.
    let odd : c.args.found ≡ Some None = search rules in
    epochs_damaged db (inr (sym is ∙ odd))

pub returns-in-None : goal.returns-in-None
returns-in-None c = λ key db is.
    let none : c.args.found ≡ None = search rules in
    epochs_damaged db (inl (sym is ∙ none))
