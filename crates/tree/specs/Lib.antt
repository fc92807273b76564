pub mod Region
pub mod Tree
pub mod Laws
