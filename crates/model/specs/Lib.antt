pub mod Offers
pub mod Deeds
pub mod Rows
pub mod Reasons
pub mod Views
pub mod Scans
