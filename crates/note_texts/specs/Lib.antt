-- what public contracts rest on
pub mod Notes
pub mod Outcomes
pub mod Refusals
