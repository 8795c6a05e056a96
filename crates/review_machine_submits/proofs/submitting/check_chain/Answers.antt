use Rattle.std.proofs.Common.{subst, sym}
use Rattle.{std.specs.List.AllByRecursion, review_core_rules.specs.Seen.seen}
use Rattle.review_machine_submits.{proofs.Decided.are_there, proofs.Decided.members, specs.Submits.IsThere}
use Rattle.review_machine_submits.proofs.submitting.check_chain.Goals as goal

pub first_unsatisfied-requires : goal.first_unsatisfied-requires
first_unsatisfied-requires c =
    let a = c.args in
    let x = seen a.found.now in
    subst (AllByRecursion (IsThere a.rows.now)) (sym c.deref.ensures.value)
    (are_there a.rows.now x.project x.branch a.chain.items (members a.rows.now x a.change a.chain.items c.requires.there c.requires.chain))

pub join_chain-requires-clause-there : goal.join_chain-requires-clause-there
join_chain-requires-clause-there c =
    let a = c.args in
    let x = seen a.found.now in
    subst (AllByRecursion (IsThere a.rows.now)) (sym c.deref-3.ensures.value)
    (are_there a.rows.now x.project x.branch a.chain.items (members a.rows.now x a.change a.chain.items c.requires.there c.requires.chain))
