pub mod Sound
pub mod Never
pub mod Published
