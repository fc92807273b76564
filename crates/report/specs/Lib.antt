pub mod Lines
pub mod Outline
