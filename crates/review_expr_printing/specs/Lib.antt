pub mod Written
pub mod LabelWords
pub mod Printed
pub mod inner
