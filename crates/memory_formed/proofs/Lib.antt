pub mod Wells
pub mod Kept
pub mod Shapes
