pub mod Ranges
pub mod Unpacks
