-- Words that only proofs and private clauses use.
pub mod Asked
pub mod Files
pub mod Walks
