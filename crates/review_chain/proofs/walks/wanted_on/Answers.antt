use Rattle.std.proofs.Common.{refl, sym, ap, ◌∙◌, arith}
use Rattle.review_chain.proofs.Parting.{walked_on, walked_wants}
use Rattle.review_chain.specs.Steps.{TheBase, Bad, Wants, wanted, want_of}
use Rattle.review_chain.specs.inner.Words.{before_of}
use Rattle.review_chain.proofs.walks.wanted_on.Goals as goal

pub loop-walked-init : goal.loop-walked-init
loop-walked-init g c = record { change = refl; walked = λ h. h }

pub loop-walked-preserved : goal.loop-walked-preserved
loop-walked-preserved g c =
    let i = c.loop-walked.invariant in
    record { change = i.change; walked = λ h. walked_on (g.L.Links.known c.args.links.now) c.loop-walked.walked c.in-At.earlier (i.walked h) (sym (ap before_of c.in-At.is) ∙ c.in_ok-before.ensures) }

pub returns-in-AtBase-clause-is : goal.returns-in-AtBase-clause-is
returns-in-AtBase-clause-is g c = λ h.
    let i = c.loop-walked.invariant in
    let b = g.L.Links.known c.args.links.now in
    walked_wants b c.loop-walked.walked TheBase (i.walked h) (sym (ap before_of c.in-AtBase.is) ∙ c.in_ok-before.ensures) tt ∙ ap (wanted b) i.change

pub returns-in-AtFault-clause-is : goal.returns-in-AtFault-clause-is
returns-in-AtFault-clause-is g c = λ h.
    let i = c.loop-walked.invariant in
    let b = g.L.Links.known c.args.links.now in
    walked_wants b c.loop-walked.walked (Bad c.in-AtFault.field-0) (i.walked h) (sym (ap before_of c.in-AtFault.is) ∙ c.in_ok-before.ensures) tt ∙ ap (wanted b) i.change

pub returns-in-AtUnknown-clause-is : goal.returns-in-AtUnknown-clause-is
returns-in-AtUnknown-clause-is g c = λ h.
    let i = c.loop-walked.invariant in
    let b = g.L.Links.known c.args.links.now in
    walked_wants b c.loop-walked.walked (Wants (want_of c.in-AtUnknown.wanted)) (i.walked h) (sym (ap before_of c.in-AtUnknown.is) ∙ c.in_ok-before.ensures) tt ∙ ap (wanted b) i.change

pub returns-clause-is : goal.returns-clause-is
returns-clause-is g c = λ h.
    let w = c.loop-walked.invariant.walked h in
    let short = w.short in
    let over = c.loop-walked-test.false in
    absurd (omega arith)
