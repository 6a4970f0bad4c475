pub mod Codes
pub mod States
pub mod Choices
pub mod Openings
pub mod Acts
pub mod OpeningLaws
pub mod SetterLaws
