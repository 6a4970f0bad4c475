pub mod Bytes
pub mod Header
pub mod Admitted
pub mod Statements
pub mod Written
