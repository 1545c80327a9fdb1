-- what public contracts rest on
pub mod Calls
pub mod Owned
pub mod Refusals
pub mod Rows
pub mod Runs
pub mod Texts
