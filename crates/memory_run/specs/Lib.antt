-- what public contracts rest on
pub mod Input
pub mod Ran
