pub mod Paging
pub mod Finding
