pub mod Published
pub mod Logs
