pub mod Calls
pub mod Narrow
pub mod Parts
pub mod Positions
