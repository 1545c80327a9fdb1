-- what public contracts rest on
pub mod Requests
pub mod Replies
pub mod Serve
-- what the functions inside promise each other
pub mod Asked
pub mod Rows
pub mod Standing
pub mod Open
