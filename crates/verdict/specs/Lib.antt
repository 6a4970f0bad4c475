pub mod Colours
pub mod Table
pub mod Judged
pub mod Statements
pub mod Findings
