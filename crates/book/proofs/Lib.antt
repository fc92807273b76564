mod Results
mod Search
mod Entering
mod Steps
mod Naming
mod Consistency
mod Runs
mod Machine
mod Numbering
mod Complete
mod Sound
mod Forests
mod Trees
pub mod Refusals
pub mod Answering
