use Rattle.std.proofs.Common.{rules, ◌≡◌, true, IsTrue}
use Rattle.review_sql.proofs.migrating.keep.Goals as goal

pub returns-clause-kept : goal.returns-clause-kept
returns-clause-kept g c =
    let ours : IsTrue c.args.is_ours → c.in_ok-seen.seen.is_ours ≡ true = λ yes. search (rules, yes) in
    record { has_form = c.in_ok-seen.seen.is_ours; ours = ours; stays = c.see_desk.ensures.stays; seen = λ is_open. c.in_ok-seen.ensures.seen is_open }
