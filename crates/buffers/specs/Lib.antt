pub mod Stores
pub mod Buffers
pub mod Fits
pub mod Sizes
pub mod Sources
