pub mod InPlace
pub mod ByKind
pub mod Located
pub mod Theorems
pub mod Runs
pub mod Readings
pub mod Unnumbered
pub mod OnlyOne
