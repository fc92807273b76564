pub mod Layout
pub mod Lawful
pub mod Encoding
pub mod Laws
