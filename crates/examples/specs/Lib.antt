pub mod Sample
pub mod Reading
pub mod Finding
