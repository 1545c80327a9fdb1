-- what public contracts rest on
pub mod AsBefore
pub mod Work
pub mod Pages
pub mod Limits
pub mod Explained
pub mod Trials
pub mod Steps
pub mod Run
pub mod Complete
pub mod Fetched
pub mod Resume
pub mod Examples
pub mod Testing
pub mod WithoutTests
-- what the functions inside promise each other
pub mod Kept
pub mod Taking
pub mod Written
