pub mod Columns
pub mod Places
pub mod Agrees
pub mod Whole
pub mod Gives
pub mod Keeps
pub mod Opens
