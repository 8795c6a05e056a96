use Rattle.std.proofs.Common.{◌≡◌, ◌≤◌, ◌<◌, [], ◌∷◌, length, refl, sym, ◌∙◌, arith, ap}
use Rattle.std.proofs.lemmas.Grind.{common_steps}
use Rattle.review_chain.proofs.Walking.{met, meets_chain, meets_bad, meets_wanted, bad_fault, goes_on}
use Rattle.review_chain.specs.Steps.{TheBase, Change, Bad, Wants, want_of}
use Rattle.review_chain.specs.inner.Words.{before_of}
use Rattle.review_chain.proofs.walks.chain.Goals as goal

pub back-init : goal.back-init
back-init g c =
    let one : c.push.new.self.items ≡ c.args.change ∷ [] = grind (arith, common_steps) in
    record { walks = rw one refl; short = rw one (omega arith); begins = rw one refl }

pub returns-in-AtBase-clause-chain : goal.returns-in-AtBase-clause-chain
returns-in-AtBase-clause-chain g c =
    let links = g.L.Links.known c.args.links.now in
    let walk = c.back.walk.items in
    let count : length walk ≡ c.len.result = sym (c.len.ensures ∙ c.back.walk.ok.0) in
    let short : c.len.result ≤ 100 = omega (arith, c.back.invariant.short) in
    meets_chain links walk c.args.change (met links walk c.args.change c.len.result c.back.first TheBase c.back.invariant.walks short count c.back.invariant.begins (sym (ap before_of c.in-AtBase.is) ∙ c.in_ok-before.ensures))

pub returns-in-AtFault-clause-fault : goal.returns-in-AtFault-clause-fault
returns-in-AtFault-clause-fault g c =
    let links = g.L.Links.known c.args.links.now in
    let walk = c.back.walk.items in
    let count : length walk ≡ c.len.result = sym (c.len.ensures ∙ c.back.walk.ok.0) in
    let short : c.len.result ≤ 100 = omega (arith, c.back.invariant.short) in
    bad_fault links walk c.args.change c.in-AtFault.fault (meets_bad links walk c.args.change c.in-AtFault.fault (met links walk c.args.change c.len.result c.back.first (Bad c.in-AtFault.fault) c.back.invariant.walks short count c.back.invariant.begins (sym (ap before_of c.in-AtFault.is) ∙ c.in_ok-before.ensures)))

pub returns-in-AtUnknown-clause-fault : goal.returns-in-AtUnknown-clause-fault
returns-in-AtUnknown-clause-fault g c =
    let links = g.L.Links.known c.args.links.now in
    let walk = c.back.walk.items in
    let want = want_of c.in-AtUnknown.field-0 in
    let count : length walk ≡ c.len.result = sym (c.len.ensures ∙ c.back.walk.ok.0) in
    let short : c.len.result ≤ 100 = omega (arith, c.back.invariant.short) in
    (walk, want, meets_wanted links walk c.args.change want (met links walk c.args.change c.len.result c.back.first (Wants want) c.back.invariant.walks short count c.back.invariant.begins (sym (ap before_of c.in-AtUnknown.is) ∙ c.in_ok-before.ensures)))

pub back-preserved : goal.back-preserved
back-preserved g c =
    let links = g.L.Links.known c.args.links.now in
    let walk = c.back.walk.items in
    let d = c.in-At.earlier in
    let count : length walk ≡ c.len.result = sym (c.len.ensures ∙ c.back.walk.ok.0) in
    let short : c.len.result ≤ 100 = omega (arith, c.back.invariant.short) in
    let on = goes_on links walk c.args.change d (met links walk c.args.change c.len.result c.back.first (Change d) c.back.invariant.walks short count c.back.invariant.begins (sym (ap before_of c.in-At.is) ∙ c.in_ok-before.ensures)) in
    let more : length walk < 100 = on.more in
    let longer = c.in_ok-insert-in-At.ensures.items in
    record { walks = rw longer on.walks; short = rw longer (omega arith); begins = rw longer refl }

pub back-smaller : goal.back-smaller
back-smaller g c =
    let links = g.L.Links.known c.args.links.now in
    let walk = c.back.walk.items in
    let d = c.in-At.earlier in
    let count : length walk ≡ c.len.result = sym (c.len.ensures ∙ c.back.walk.ok.0) in
    let short : c.len.result ≤ 100 = omega (arith, c.back.invariant.short) in
    let on = goes_on links walk c.args.change d (met links walk c.args.change c.len.result c.back.first (Change d) c.back.invariant.walks short count c.back.invariant.begins (sym (ap before_of c.in-At.is) ∙ c.in_ok-before.ensures)) in
    let more : length walk < 100 = on.more in
    let longer = c.in_ok-insert-in-At.ensures.items in
    omega (arith, c.in_ok-insert-in-At.ensures.len)
