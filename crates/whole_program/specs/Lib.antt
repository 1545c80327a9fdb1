-- what public contracts rest on
pub mod All
pub mod Headline
