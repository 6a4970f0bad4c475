pub mod Grounds
pub mod Pieces
pub mod Script
