-- what public contracts rest on
pub mod Sets
pub mod Readings
pub mod Weights
pub mod Costs
pub mod Touching
pub mod Idling
pub mod Sharing
pub mod Laws
-- what the functions inside promise each other
pub mod Remembered
pub mod Next
pub mod SetNumbers
pub mod Dense
