use Rattle.std.proofs.Common.{◌≡◌, refl, sym, subst}
use Rattle.{review_table.specs.Rows.rows_of, review_machine_rows.specs.Known.Members}
use Rattle.review_sql.{proofs.Finding.has_learnt, proofs.Finding.learnt_seen, specs.Loading.LearnsSeen}
use Rattle.review_machine_rows.specs.declared.rows.Want.TheVariants as want
use Rattle.review_sql.specs.declared.loading.Ended.TheVariants as ended
use Rattle.review_sql.proofs.loading.learn_group.Goals as goal

pub returns-in-Some-clause-told : goal.returns-in-Some-clause-told
returns-in-Some-clause-told c = λ db is.
    let w = want.Group c.args.group.now in
    let members = rows_of c.in-Some.members in
    subst (LearnsSeen w c.args.rows.now c.put_members.new.rows db) (sym c.learnt.ensures)
    (learnt_seen w (Members members) c.args.rows.now c.put_members.new.rows db c.put_members.result c.put_members.ensures (members, refl, rw c.in-Some.is at is))

pub returns-in-Some-clause-learnt : goal.returns-in-Some-clause-learnt
returns-in-Some-clause-learnt c = λ is.
    has_learnt (want.Group c.args.group.now) (Members (rows_of c.in-Some.members)) c.args.rows.now c.put_members.new.rows c.put_members.result c.put_members.ensures (subst (λ e. e ≡ ended.Learnt) c.learnt.ensures is)
