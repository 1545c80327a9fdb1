pub mod AheadLaws
pub mod ClassLaws
pub mod ExitLaws
pub mod HomeLaws
pub mod InsideLaws
pub mod RegionLaws
pub mod WaitLaws
