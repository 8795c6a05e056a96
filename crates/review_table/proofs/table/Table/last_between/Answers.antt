use Rattle.std.proofs.Common.{sym}
use Rattle.review_table.proofs.Lasts.{if_none, if_some, last_found, last_inside, none_above, none_inside}
use Rattle.review_table.{proofs.Places.select_none, specs.Rows.rows_of}
use Rattle.review_table.proofs.table.Table.last_between.Goals as goal

pub returns-in-Greater-clause-none : goal.returns-in-Greater-clause-none
returns-in-Greater-clause-none g c = λ q is.
    let total = g.met.K.Ord.total in
    let rows = rows_of c.args.self.now in
    none_inside total c.args.from c.args.to rows (select_none total c.args.from c.args.to rows (sym c.in-Greater.ensures)) q is

pub returns-clause-none : goal.returns-clause-none
returns-clause-none g c = if_none c.last_ordered.result (none_inside g.met.K.Ord.total c.args.from c.args.to (rows_of c.args.self.now)) c.last_ordered.ensures.none

pub returns-clause-there : goal.returns-clause-there
returns-clause-there g c = if_some c.last_ordered.result (λ k last. last_found g.met.K.Ord.total c.args.from c.args.to (rows_of c.args.self.now) k.now last) c.last_ordered.ensures.last

pub returns-clause-within : goal.returns-clause-within
returns-clause-within g c = if_some c.last_ordered.result (λ k last. last_inside g.met.K.Ord.total c.args.from c.args.to (rows_of c.args.self.now) k.now last) c.last_ordered.ensures.last

pub returns-clause-above : goal.returns-clause-above
returns-clause-above g c =
    if_some c.last_ordered.result (λ k last. none_above g.met.K.Ord.total c.args.from c.args.to (rows_of c.args.self.now) k.now last c.last_ordered.ensures.sorted) c.last_ordered.ensures.last
