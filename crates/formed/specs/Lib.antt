pub mod Uses
pub mod WellFormed
pub mod Fits
