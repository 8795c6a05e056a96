use Rattle.std.proofs.Common.{◌≡◌, Ok, inl, inr, refl, subst, sym}
use Rattle.{review_sql_tables.proofs.Found.look_on, review_sql.proofs.Finding.is_group}
use Rattle.review_sql.specs.Loading.{LearnsBounded, LearnsSeen}
use Rattle.review_machine_rows.specs.declared.rows.Want.TheVariants as want
use Rattle.review_sql.proofs.loading.find_next.Goals as goal

pub returns-in-Some-clause-looks : goal.returns-in-Some-clause-looks
returns-in-Some-clause-looks g c = inl (refl, (refl, λ db bounded. (c.learn.ensures.told db (c.in-Some.ensures.told db bounded), bounded)))

pub returns-in_ok-found-in-Some-group-clause-looks : goal.returns-in_ok-found-in-Some-group-clause-looks
returns-in_ok-found-in-Some-group-clause-looks g c =
    let w = c.args.want.now in
    let group = c.in-Some-group.group.now in
    let old = c.args.rows.now in
    let new = c.learn_group.new.rows in
    let is : w ≡ want.Group group = is_group w group c.in-Some-group.ensures in
    inr (
      refl,
      look_on _ (LearnsBounded w old new c.args.counts.now c.args.counts.now) _ _ c.in_ok-found-in-Some-group.found (Ok c.learn_group.result) c.in_ok-found-in-Some-group.ensures.looks
          (λ db h bounded. (subst (λ w. LearnsSeen w old new db c.learn_group.result) (sym is) (c.learn_group.ensures.told db h), bounded)),
    )

pub returns-in_ok-sight-in-None-clause-looks : goal.returns-in_ok-sight-in-None-clause-looks
returns-in_ok-sight-in-None-clause-looks g c =
    let w = c.args.want.now in
    inr (
      refl,
      look_on _ (LearnsBounded w c.args.rows.now c.learn-in-None.new.rows c.args.counts.now c.see.new.counts) _ _ c.in_ok-sight-in-None.sight (Ok c.learn-in-None.result) c.in_ok-sight-in-None.ensures.looks
          (λ db h bounded. (c.learn-in-None.ensures.told db (h bounded).0, (h bounded).1)),
    )
