-- what public contracts rest on
pub mod Cells
pub mod Release
pub mod Nodes
pub mod Words
pub mod Rows
pub mod Closing
pub mod Copies
pub mod RowNodes
-- what the functions inside promise each other
pub mod Copying
