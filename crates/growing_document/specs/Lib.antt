-- what public contracts rest on
pub mod Faults
pub mod Grown
pub mod Inside
pub mod Lengths
pub mod Numbers
pub mod Reading
