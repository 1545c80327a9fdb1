-- what public contracts rest on
pub mod Chosen
pub mod Measures
pub mod Reading
