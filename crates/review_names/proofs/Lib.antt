pub mod Numerals
mod Searches
pub mod Accounts
pub mod Components
mod LabelForms
mod Spans
