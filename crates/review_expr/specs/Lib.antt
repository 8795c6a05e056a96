pub mod Tokens
pub mod Expressions
pub mod Exprs
pub mod inner
