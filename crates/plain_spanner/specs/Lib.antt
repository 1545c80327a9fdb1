-- what the functions inside promise each other
pub mod Listed
pub mod Tables
