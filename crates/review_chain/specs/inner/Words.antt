-- Words that only proofs and private clauses use.
use Rattle.review_chain.specs.Steps.{want_of, Before, wanted, TheBase, Change, Bad, Wants}
use Rattle.review_chain.specs.declared.walks.Step.{Step}
use Rattle.review_chain.specs.declared.walks.Step.TheVariants.{AtBase, At, AtFault, AtUnknown}

-- what the code says stands before
abbrev pub before_of : Step → Before
before_of AtBase = TheBase
before_of (At d) = Change d
before_of (AtFault fault) = Bad fault
before_of (AtUnknown wanted) = Wants (want_of wanted)
