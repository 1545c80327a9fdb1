pub mod CellLaws
pub mod Filling
pub mod Opening
pub mod Refused
