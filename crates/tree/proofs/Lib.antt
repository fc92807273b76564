pub mod Books
pub mod Uses
