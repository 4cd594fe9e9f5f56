pub mod Faults
pub mod Targets
pub mod Own
pub mod Telling
pub mod Reading
pub mod inner
