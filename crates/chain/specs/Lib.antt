pub mod Chains
pub mod Laws
pub mod Named
pub mod Select
pub mod Standing
