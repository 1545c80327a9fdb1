pub mod FaultLaws
pub mod LeastLaws
pub mod NumberedLaws
pub mod PartFaults
pub mod SureLaws
