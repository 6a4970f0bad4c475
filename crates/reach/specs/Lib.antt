pub mod Held
pub mod Reach
pub mod Statements
