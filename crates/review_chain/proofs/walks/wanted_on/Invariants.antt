use Rattle.{std.proofs.Common.◌≡◌, std.proofs.Common.◌-◌, review_chain.specs.Parts.HasWalked}
use Rattle.review_chain.proofs.walks.wanted_on.Given as goal

-- what is walked is a walk to the change
abbrev pub invariant-loop-walked : goal.invariant-loop-walked
invariant-loop-walked g l = record {
  change : l.walked.change ≡ l.fn.walked.change;
  walked : HasWalked (g.L.Links.known l.links) l.fn.walked → HasWalked (g.L.Links.known l.links) l.walked;
}

abbrev pub decreases-loop-walked : goal.decreases-loop-walked
decreases-loop-walked g l = 101 - l.walked.count
