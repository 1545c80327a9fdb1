-- what public contracts rest on
pub mod Order
pub mod Grown
pub mod Forward
pub mod Source
pub mod Sets
pub mod Graph
pub mod Named
pub mod Programs
pub mod Plans
pub mod Codes
pub mod Sound
pub mod Running
pub mod Pools
pub mod Planned
pub mod Turn
pub mod RowLists
pub mod Loop
pub mod Listed
-- of the arena below it, what callers of a graph speak of
pub use Rattle.node_arena.specs.Rows
pub use Rattle.node_arena.specs.Cells
