pub mod Covers
pub mod Marking
