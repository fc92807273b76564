pub mod Lists
pub mod Regions
pub mod Sets
pub mod Narrowing
pub mod Rules
