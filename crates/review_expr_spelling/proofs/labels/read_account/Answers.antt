use Rattle.std.proofs.Common.{sym}
use Rattle.review_expr_spelling.proofs.Accounts.{account_yes, account_no}
use Rattle.review_expr_spelling.proofs.labels.read_account.Goals as goal

pub returns-in-Ok : goal.returns-in-Ok
returns-in-Ok c = sym (account_yes _ c.args.text.now c.in-Ok.ensures.ok.0 c.in-Ok.ensures.ok.1)

pub returns-in-Err : goal.returns-in-Err
returns-in-Err c = sym (account_no c.args.text.now c.in-Err.ensures.form.1)
