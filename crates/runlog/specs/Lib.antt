pub mod Answers
pub mod Records
pub mod Runs
pub mod Rule
pub mod Statements
pub mod Written
