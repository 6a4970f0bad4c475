pub mod Such
pub mod Colourings
pub mod Tables
pub mod Verdicts
pub mod Formed
pub mod Compute
pub mod Apart
