pub mod Kept
pub mod Leaves
pub mod Deeds
