pub mod Trees
pub mod Laws
