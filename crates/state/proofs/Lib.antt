pub mod OpeningLaws
pub mod SetterLaws
pub mod Lists
pub mod Apart
