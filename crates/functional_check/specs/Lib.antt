-- what public contracts rest on
pub mod Checked
pub mod Faults
pub mod Laws
pub mod Numbered
