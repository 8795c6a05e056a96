use Rattle.std.proofs.Common.{◌≡◌, sym, subst}
use Rattle.review_machine_rows.specs.Known.{meaning}
use Rattle.review_sql.{proofs.Finding.has_learnt, proofs.Finding.learnt_seen, specs.Loading.LearnsSeen}
use Rattle.review_sql.specs.declared.loading.Ended.TheVariants as ended
use Rattle.review_sql.proofs.loading.learn.Goals as goal

pub returns-in-Found-clause-told : goal.returns-in-Found-clause-told
returns-in-Found-clause-told c = λ db is.
    let w = c.args.want.now in
    subst (LearnsSeen w c.args.rows.now c.put_found.new.rows db) (sym c.learnt.ensures) (learnt_seen w (meaning c.in-Found.found) c.args.rows.now c.put_found.new.rows db c.put_found.result c.put_found.ensures (rw c.in-Found.is at is))

pub returns-in-Found-clause-learnt : goal.returns-in-Found-clause-learnt
returns-in-Found-clause-learnt c = λ is. has_learnt c.args.want.now (meaning c.in-Found.found) c.args.rows.now c.put_found.new.rows c.put_found.result c.put_found.ensures (subst (λ e. e ≡ ended.Learnt) c.learnt.ensures is)
