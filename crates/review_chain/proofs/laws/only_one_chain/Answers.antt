use Rattle.std.proofs.Common.{◌≡◌}
use Rattle.review_chain.proofs.Walking.{one_walk, one_end, chain_meets, bad_meets, wanted_meets, decided}
use Rattle.review_chain.specs.Steps.{TheBase, Bad, Wants}
use Rattle.review_chain.proofs.laws.only_one_chain.Goals as goal

pub returns : goal.returns
returns c = record {
  chains = λ b xs ys d h k. one_walk b xs ys d TheBase TheBase (chain_meets b xs d h) tt (chain_meets b ys d k) tt;
  either = λ b xs ys d fault h k. let e : TheBase ≡ Bad fault = one_end b xs ys d TheBase (Bad fault) (chain_meets b xs d h) tt (bad_meets b ys d fault k) tt in cc;
  faults = λ b xs ys d fault other h k.
      let p = bad_meets b xs d fault h in
      let q = bad_meets b ys d other k in
      let e : Bad fault ≡ Bad other = one_end b xs ys d (Bad fault) (Bad other) p tt q tt in
      (one_walk b xs ys d (Bad fault) (Bad other) p tt q tt, cc);
  wants = λ b xs ys d want other h k.
      let p = wanted_meets b xs d want h in
      let q = wanted_meets b ys d other k in
      let e : Wants want ≡ Wants other = one_end b xs ys d (Wants want) (Wants other) p tt q tt in
      (one_walk b xs ys d (Wants want) (Wants other) p tt q tt, cc);
  chain_decides = λ b xs d h. decided b xs d TheBase (chain_meets b xs d h) tt;
  fault_decides = λ b xs d fault h. decided b xs d (Bad fault) (bad_meets b xs d fault h) tt;
}
