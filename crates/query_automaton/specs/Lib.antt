-- what public contracts rest on
pub mod BegunQuery
pub mod CompiledQuery
pub mod Compiling
pub mod Held
pub mod Laws
pub mod Parts
pub mod QueryAutomaton
pub mod Steps
pub mod Told
pub mod Weights
