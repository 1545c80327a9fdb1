-- what public contracts rest on
pub mod Atom
pub mod Capped
pub mod CountLaw
pub mod Counts
pub mod Examples
pub mod Places
pub mod PlainCounts
pub mod Reads
pub mod Refusals
pub mod Repeats
pub mod Variables
pub mod Words
-- what the functions inside promise each other
pub mod Codes
pub mod Drafts
pub mod Sides
pub mod Made
pub mod Moves
