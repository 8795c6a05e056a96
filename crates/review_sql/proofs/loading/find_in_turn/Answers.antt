use Rattle.std.proofs.Common.{◌≡◌, ◌∙◌, Ok, Err, arith, inl, refl, subst, sym, rules}
use Rattle.std.proofs.lemmas.List.{take_all}
use Rattle.review_machine_rows.{proofs.Looked.none_asked, specs.Known.AreAsked}
use Rattle.review_sql.proofs.Finding.{Have, all_seen, have_more, learnt_asked, one_failed, one_more, ended_unlearnt}
use Rattle.review_sql.specs.Loading.{LearnsBounded, LooksIf, LooksOnce, WereSeen}
use Rattle.review_sql.specs.declared.loading.Ended.TheVariants as ended
use Rattle.review_sql.proofs.loading.find_in_turn.Goals as goal

pub loop-want-init : goal.loop-want-init
loop-want-init g c = record {
  reference = refl;
  asked = none_asked c.args.rows.now;
  looks = subst (λ is. LooksIf g.S.Store is (Have c.args.rows.now c.args.rows.now c.args.counts.now c.args.counts.now) c.args.tx.now.conn.now c.args.tx.now.conn.now (Ok (tt {0}))) (sym c.requires.unasked)
      (refl, λ db bounded. ((λ w f is. inl is), bounded));
}

pub loop-want-preserved : goal.loop-want-preserved
loop-want-preserved g c =
    let wants = c.args.wants.now in
    let index = c.loop-want.want-index in
    let want = c.want-item.result in
    let from = c.args.rows.now in
    let old = c.loop-want.rows in
    let new = c.find_next.new.rows in
    let before = c.args.counts.now in
    let mid = c.loop-want.counts in
    let more = c.find_next.new.counts in
    let first = c.args.tx.now.conn.now in
    let last = c.loop-want.tx.conn.now in
    let next = c.find_next.new.tx.conn.now in
    let learnt : c.in_ok-end.end ≡ ended.Learnt = search rules in
    record {
      reference = c.find_next.ensures.same_reference ∙ c.loop-want.invariant.reference;
      asked = learnt_asked wants index want from old new c.loop-want-test.true c.want-item.is c.loop-want.invariant.asked (c.in_ok-end.ensures.learnt learnt);
      looks = one_more g.S.Store (Have from old before mid) (LearnsBounded want old new mid more) (Have from new before more) first last next c.loop-want.is_asked c.find_next.new.is_asked ended.Learnt tt
          (λ db have sees. have_more want from old new before mid more db have sees) c.loop-want.invariant.looks
          (subst (λ s. LooksOnce g.S.Store c.loop-want.is_asked c.find_next.new.is_asked (LearnsBounded want old new mid more) last next (Ok s)) learnt c.in_ok-end.ensures.looks);
    }

pub returns-in_err-end-clause-looks : goal.returns-in_err-end-clause-looks
returns-in_err-end-clause-looks g c =
    let want = c.want-item.result in
    let from = c.args.rows.now in
    let old = c.loop-want.rows in
    let new = c.find_next.new.rows in
    let before = c.args.counts.now in
    let mid = c.loop-want.counts in
    let more = c.find_next.new.counts in
    let first = c.args.tx.now.conn.now in
    let last = c.loop-want.tx.conn.now in
    let next = c.find_next.new.tx.conn.now in
    let is : c.from_residual.result ≡ Err c.in_err-end.field-0.0 = search rules in
    subst (λ r. LooksIf g.S.Store c.find_next.new.is_asked (WereSeen from new before more) first next r) (sym is)
    (one_failed g.S.Store (Have from old before mid) (LearnsBounded want old new mid more) (WereSeen from new before more) first last next c.loop-want.is_asked c.find_next.new.is_asked _ c.in_err-end.field-0.0
    c.loop-want.invariant.looks c.in_err-end.ensures.looks)

pub returns-in-NoMemory-clause-looks : goal.returns-in-NoMemory-clause-looks
returns-in-NoMemory-clause-looks g c =
    let met : c.in_ok-end.end ≡ ended.NoMemory = search rules in
    ended_unlearnt g.S.Store c.want-item.result c.args.rows.now c.loop-want.rows c.find_next.new.rows c.args.counts.now c.loop-want.counts c.find_next.new.counts c.args.tx.now.conn.now c.loop-want.tx.conn.now
    c.find_next.new.tx.conn.now c.loop-want.is_asked c.find_next.new.is_asked c.in_ok-end.end ended.NoMemory met (λ e. cc) c.loop-want.invariant.looks c.in_ok-end.ensures.looks

pub returns-in-Damaged-clause-looks : goal.returns-in-Damaged-clause-looks
returns-in-Damaged-clause-looks g c =
    let met : c.in_ok-end.end ≡ ended.Damaged = search rules in
    ended_unlearnt g.S.Store c.want-item.result c.args.rows.now c.loop-want.rows c.find_next.new.rows c.args.counts.now c.loop-want.counts c.find_next.new.counts c.args.tx.now.conn.now c.loop-want.tx.conn.now
    c.find_next.new.tx.conn.now c.loop-want.is_asked c.find_next.new.is_asked c.in_ok-end.end ended.Damaged met (λ e. cc) c.loop-want.invariant.looks c.in_ok-end.ensures.looks

pub returns-clause-looks : goal.returns-clause-looks
returns-clause-looks g c = all_seen g.S.Store c.loop-want.is_asked c.args.rows.now c.loop-want.rows c.args.counts.now c.loop-want.counts c.args.tx.now.conn.now c.loop-want.tx.conn.now c.loop-want.invariant.looks

pub returns-clause-asked : goal.returns-clause-asked
returns-clause-asked g c = λ learnt. subst (λ ws. AreAsked ws c.args.rows.now c.loop-want.rows) (take_all c.loop-want.want-index c.args.wants.now (omega (arith, c.loop-want-test.false))) c.loop-want.invariant.asked
