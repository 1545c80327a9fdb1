-- what public contracts rest on
pub mod Settling
pub mod Laws
pub mod Goes
pub mod Steps
pub mod Followed
pub mod PieceLaws
pub mod ReadPiece
