pub mod Emission
pub mod EmissionLaws
pub mod EmissionFaults
pub mod Causes
