pub mod Folds
pub mod Closures
pub mod Walks
pub mod Helds
pub mod Reaches
