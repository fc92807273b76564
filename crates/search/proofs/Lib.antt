pub mod Paging
pub mod Keeping
pub mod Determined
