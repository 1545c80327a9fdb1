pub mod ChainLaws
pub mod InnerLaws
pub mod SetLaws
pub mod Marking
