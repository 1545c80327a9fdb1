pub mod Fixed
pub mod ResultLaws
pub mod Utf8
