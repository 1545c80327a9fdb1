-- what public contracts rest on
pub mod Answer
pub mod Answers
pub mod Captures
pub mod Examples
pub mod ExprView
pub mod Expression
pub mod Fit
pub mod Functional
pub mod Gathered
pub mod Laws
pub mod Passing
pub mod Sequential
pub mod Sound
pub mod Tested
pub mod Tree
pub mod View
pub mod WellBuilt
