pub mod Pick
pub mod Every
pub mod Refusals
pub mod Answers
