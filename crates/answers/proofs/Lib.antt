pub mod Passing
pub mod Embeddings
pub mod Listings
pub mod Runs
