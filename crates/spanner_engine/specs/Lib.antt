-- what public contracts rest on
pub mod Begun
pub mod Borrowed
pub mod Filtering
pub mod Touching
pub mod Waiting
pub mod Laws
pub mod Left
pub mod Fitting
pub mod Trying
pub mod Caching
pub mod Coming
pub mod Stages
