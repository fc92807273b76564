pub mod Digits
pub mod Tables
pub mod Firsts
pub mod Readback
pub mod Regions
pub mod Encoded
pub mod Unique
