-- what public contracts rest on
pub mod PrintedFormula
pub mod FormulaLaws
pub mod PrintedQuery
pub mod QueryLaws
pub mod PrintedTested
-- what the functions inside promise each other
pub mod FormulaShape
pub mod QueryShape
