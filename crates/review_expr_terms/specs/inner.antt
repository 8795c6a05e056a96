-- Words that only proofs and private clauses use.
pub mod Scan
pub mod Views
pub mod Words
