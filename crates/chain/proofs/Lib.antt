pub mod Follow
pub mod FromFn
pub mod Naming
pub mod Standing
