use Rattle.sqlite.specs.Held.{state}
use Rattle.review_sql.proofs.Raised.{brought_earlier, not_migrated_if, unfit_earlier, unfit_latest, unmigrated_earlier, unmigrated_latest}
use Rattle.review_sql.proofs.migrating.bring.Goals as goal

pub returns-in-Some-clause-brought : goal.returns-in-Some-clause-brought
returns-in-Some-clause-brought g c = brought_earlier g.S.Store c.args.is_ours c.args.conn.now c.ask.new.conn c.upgrade.new.conn c.ask.ensures.stays c.in-Some.version c.upgrade.result c.upgrade.ensures.raised

pub returns-in-Some-clause-refused : goal.returns-in-Some-clause-refused
returns-in-Some-clause-refused g c = unmigrated_earlier g.S.Store c.args.is_ours c.args.conn.now c.ask.new.conn c.upgrade.new.conn c.ask.ensures.stays c.upgrade.result c.upgrade.ensures.refused

pub returns-in-Some-clause-unfit : goal.returns-in-Some-clause-unfit
returns-in-Some-clause-unfit g c is_open =
    unfit_earlier g.S.Store c.args.is_ours c.args.conn.now c.ask.new.conn c.upgrade.new.conn c.ask.ensures.stays c.upgrade.result c.upgrade.ensures.refused (c.upgrade.ensures.unfit is_open) is_open

pub returns-in-None-clause-refused : goal.returns-in-None-clause-refused
returns-in-None-clause-refused g c = unmigrated_latest g.S.Store c.args.is_ours c.args.conn.now c.ask.new.conn c.keep.new.conn c.ask.ensures.stays c.keep.result c.keep.ensures.stays

pub returns-in-None-clause-unfit : goal.returns-in-None-clause-unfit
returns-in-None-clause-unfit g c is_open =
    unfit_latest g.S.Store c.args.is_ours c.args.conn.now c.ask.new.conn c.keep.new.conn c.ask.ensures.stays c.keep.result c.keep.ensures.stays (c.keep.ensures.unfit is_open) is_open

pub returns-in_err-said-clause-refused : goal.returns-in_err-said-clause-refused
returns-in_err-said-clause-refused g c = not_migrated_if c.args.is_ours c.from_residual.result (state g.S.Store c.args.conn.now) (state g.S.Store c.ask.new.conn) c.ask.ensures.stays

pub returns-in_err-version_of-clause-refused : goal.returns-in_err-version_of-clause-refused
returns-in_err-version_of-clause-refused g c =
    not_migrated_if c.args.is_ours c.from_residual-in_err-version_of.result (state g.S.Store c.args.conn.now) (state g.S.Store c.ask.new.conn) c.ask.ensures.stays
