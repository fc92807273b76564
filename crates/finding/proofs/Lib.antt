pub mod Splitting
pub mod Ranking
pub mod Paging
pub mod Answering
pub mod Useful
pub mod Computing
pub mod OneAnswer
