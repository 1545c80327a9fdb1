-- what public contracts rest on
pub mod Tokens
pub mod Minuses
pub mod Spells
pub mod Reads
pub mod TreeFaults
pub mod Faults
pub mod Laws
pub mod Answers
pub mod Formed
pub mod Tested
pub mod TestedAnswers
pub mod Binding
pub mod TestedLaws
-- what the functions inside promise each other
pub mod Nest
pub mod Step
pub mod View
pub mod Turn
pub mod Numbers
pub mod Bounds
pub mod TokenRuns
pub mod TestSteps
pub mod TestAnswers
