use Rattle.std.proofs.Common.{◌≡◌, sym, ap, subst, IfOk, option_map}
use Rattle.review_chain.proofs.Parting.{found_decided, found_wanted, walked_alone}
use Rattle.review_chain.specs.{Parts.HasWalked, Steps.want_of, Steps.wanted}
use Rattle.review_chain.proofs.walks.wanted.Goals as goal

pub returns-clause-is : goal.returns-clause-is
returns-clause-is g c =
    let b = g.L.Links.known c.args.links.now in
    subst (λ d. IfOk c.wanted_on.result (λ found. option_map want_of found ≡ wanted b d)) (ap (λ w. w.change) c.new-walked.ensures)
    (c.wanted_on.ensures.is (subst (HasWalked b) (sym c.new-walked.ensures) (walked_alone b c.args.change)))

pub returns-clause-some : goal.returns-clause-some
returns-clause-some g c = found_wanted (g.L.Links.known c.args.links.now) c.args.change c.wanted_on.result (returns-clause-is g c)

pub returns-clause-none : goal.returns-clause-none
returns-clause-none g c = found_decided (g.L.Links.known c.args.links.now) c.args.change c.wanted_on.result (returns-clause-is g c)
