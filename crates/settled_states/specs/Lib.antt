-- what public contracts rest on
pub mod States
-- what the functions inside promise each other
pub mod Covering
