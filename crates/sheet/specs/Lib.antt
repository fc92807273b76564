pub mod Writing
pub mod Opening
pub mod Stack
pub mod Links
pub mod Viewing
pub mod Laws
