pub mod Number
pub mod Name
pub mod Faults
