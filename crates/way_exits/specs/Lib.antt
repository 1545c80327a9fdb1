-- what public contracts rest on
pub mod Exits
pub mod Home
pub mod Inside
pub mod Paths
pub mod Waiting
-- what the functions inside promise each other
pub mod Regions
