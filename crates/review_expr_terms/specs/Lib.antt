pub mod Patterns
pub mod Lexemes
pub mod Scanned
pub mod Grammar
pub mod Reading
pub mod Views
pub mod Words
pub mod inner
