use Rattle.review_sql_change_lookups.proofs.Sending.{odd_header, odd_header_damaged}
use Rattle.review_sql_change_lookups.proofs.senders.odd_sender.Goals as goal

pub returns-then-is_elsewhere-clause-tells : goal.returns-then-is_elsewhere-clause-tells
returns-then-is_elsewhere-clause-tells c = λ merged n p db odd. odd_header merged c.args.base.now n p db odd

pub returns-else-is_elsewhere-clause-tells : goal.returns-else-is_elsewhere-clause-tells
returns-else-is_elsewhere-clause-tells c = λ merged n p db odd. odd_header_damaged db n odd
