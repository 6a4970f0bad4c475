pub mod Packed
pub mod Statements
