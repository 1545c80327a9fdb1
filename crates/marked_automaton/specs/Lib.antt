-- what public contracts rest on
pub mod Automaton
pub mod Codes
pub mod Faults
pub mod Inside
pub mod Marks
pub mod Reduct
pub mod Laws
pub mod Images
-- what the functions inside promise each other
pub mod Reach
pub mod Trimmed
pub mod Erased
pub mod Accepting
pub mod Grouping
