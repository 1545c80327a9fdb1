-- what public contracts rest on
pub mod Faults
pub mod Told
pub mod Shelf
pub mod Flow
pub mod Sink
pub mod MemoryShelf
pub mod MemorySink
pub mod Status
pub mod Change
pub mod Source
pub mod MemorySource
pub mod LineInput
-- what the functions inside promise each other
pub mod Lines
pub mod Reading
