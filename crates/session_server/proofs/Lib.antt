mod SessionLaws
mod Apart
mod Refusals
mod RowTexts
mod GivenText
pub mod Giving
mod Replied
pub mod Opens
mod NextRows
mod Few
mod Grows
pub mod Lines
