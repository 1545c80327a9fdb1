-- what public contracts rest on
pub mod Cells
pub mod Library
