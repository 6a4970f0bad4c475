pub mod Steps
pub mod Statements
pub mod Runs
pub mod Readings
