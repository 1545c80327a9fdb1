-- what public contracts rest on
pub mod JoinedMarks
pub mod JoinedNames
pub mod Joining
pub mod Laws
pub mod Operations
pub mod Pairs
pub mod Rows
pub mod Uniting
-- what the functions inside promise each other
pub mod Moved
pub mod Renaming
pub mod Sides
