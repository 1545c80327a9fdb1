pub mod Determined
pub mod Ascending
pub mod Searched
pub mod Matching
pub mod MeasureLaws
