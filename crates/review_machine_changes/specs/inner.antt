-- Words that only proofs and private clauses use.
pub mod Done
