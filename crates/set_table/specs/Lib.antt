-- what public contracts rest on
pub mod Tabled
pub mod Codes
pub mod Cut
pub mod Named
pub mod Runs
pub mod Answered
pub mod Laid
pub mod Lending
-- what the functions inside promise each other
pub mod Spread
pub mod Staying
