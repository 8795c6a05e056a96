use Rattle.{std.proofs.Common.inl, review_core_rules.specs.Seen.seen, review_machine_rows.specs.Links.links_in}
use Rattle.review_machine_submits.proofs.Decided.{bad_link}
use Rattle.review_machine_submits.proofs.submitting.submit_chain.Goals as goal

pub returns-in_ok-refusal_of-in-Err-clause-submitted : goal.returns-in_ok-refusal_of-in-Err-clause-submitted
returns-in_ok-refusal_of-in-Err-clause-submitted c =
    let found = seen c.args.found.now in
    let is = bad_link (links_in c.args.rows.now found.project found.branch) c.args.change c.in-Err.fault c.in_ok-refusal_of-in-Err.field-0 c.refused.result.1 c.in-Err.ensures.fault c.in_ok-refusal_of-in-Err.ensures.ok c.refused.ensures.reply in
    inl (is, c.refused.ensures.empty)
