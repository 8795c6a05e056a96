use Rattle.review_chain.proofs.Parting.{chain_decided, bad_decided}
use Rattle.review_chain.proofs.laws.parts_decide.Goals as goal

pub returns : goal.returns
returns c = record { chain = chain_decided; fault = bad_decided }
