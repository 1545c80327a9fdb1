-- what public contracts rest on
pub mod ClassTree
pub mod Digits
pub mod Joined
pub mod Laws
pub mod Properties
pub mod Texts
-- what the functions inside promise each other
pub mod Arms
pub mod Grouped
