mod Reading
mod Behind
pub mod Judging
pub mod Tags
pub mod Fronts
mod Steps
pub mod Meaning
