-- Words that only proofs and private clauses use.
pub mod Deciding
pub mod Kept
pub mod Words
