pub mod State
pub mod Runs
pub mod Kept
pub mod Laws
