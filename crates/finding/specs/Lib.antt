pub mod Input
pub mod Ending
pub mod Pages
pub mod Finding
pub mod Writing
pub mod Promises
