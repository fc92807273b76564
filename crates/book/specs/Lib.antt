pub mod Document
pub mod Reading
pub mod Refusing
pub mod Views
pub mod Answer
pub mod Promises
