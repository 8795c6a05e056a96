use Rattle.{std.proofs.Common.Ok, review_sql_tables.proofs.Found.look_both, review_sql_tables.proofs.Found.look_on}
use Rattle.review_sql_change_lookups.specs.Reviews.{AreFoundSets, AreFoundTalk}
use Rattle.review_sql_change_lookups.proofs.reviews.find_change.Goals as goal

pub returns-clause-looks : goal.returns-clause-looks
returns-clause-looks g c =
    let n = c.args.number in
    let both = look_both (AreFoundSets n) (AreFoundTalk n) _ _ _ c.in_ok-sets.sets (Ok c.in_ok-talk.talk) c.in_ok-sets.ensures.looks c.in_ok-talk.ensures.looks in
    look_on _ _ _ _ c.in_ok-talk.talk (Ok c.tell_change.result) both (λ db h. c.tell_change.ensures n db (record { sets = h.0; talk = h.1 }))
