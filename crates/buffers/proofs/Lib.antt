pub mod Hits
pub mod Pops
pub mod Newests
pub mod Nearest
pub mod Fifos
pub mod Wells
pub mod Apart
