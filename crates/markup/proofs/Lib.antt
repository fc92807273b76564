pub mod Leading
pub mod Names
pub mod Runs
pub mod Granted
