use Rattle.std.proofs.Common.{◌≡◌, ◌≤◌, ◌-◌, length, vec_len}
use Rattle.review_chain.specs.Walks.{IsWalk, first_of}
use Rattle.review_chain.proofs.walks.chain.Given as goal

abbrev pub invariant-back : goal.invariant-back
invariant-back g l = record {
  walks : IsWalk (g.L.Links.known l.links) l.walk.items l.fn.change;
  short : length l.walk.items ≤ 100;
  begins : first_of l.walk.items ≡ l.first;
}

abbrev pub decreases-back : goal.decreases-back
decreases-back g l = 100 - vec_len l.walk
