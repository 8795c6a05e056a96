pub mod Words
pub mod CopyWords
pub mod LabelParts
pub mod RequirementWords
pub mod LabelValues
pub mod WholeWords
pub mod Levels
pub mod Again
