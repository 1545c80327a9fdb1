-- what public contracts rest on
pub mod Sets
pub mod Runs
pub mod Escapes
pub mod CharSets
pub mod Alphabet
pub mod CharEscapes
pub mod Signs
pub mod Names
pub mod Repeats
pub mod Classes
pub mod Spells
pub mod Faults
pub mod Laws
pub mod AtomView
-- what the functions inside promise each other
pub mod Tokens
pub mod Dialect
pub mod ClassStep
pub mod Nest
pub mod Step
pub mod View
pub mod ClassView
pub mod Turn
pub mod CharView
