use Rattle.std.proofs.Common.{◌∙◌, sym}
use Rattle.review_machine_laws.proofs.Told.{asker_is, unknown_asker}
use Rattle.review_machine_accounts.proofs.callers.is_asker.Goals as goal

pub returns-clause-told : goal.returns-clause-told
returns-clause-told c = λ reading file h query l. c.is_account.ensures ∙ asker_is reading file h c.args.caller query c.args.rows.now l

pub returns-clause-refused : goal.returns-clause-refused
returns-clause-refused c = λ unknown reading file h query l.
    unknown_asker reading h c.args.caller query (sym (asker_is reading file h c.args.caller query c.args.rows.now l) ∙ (sym c.is_account.ensures ∙ unknown))
