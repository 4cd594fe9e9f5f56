pub mod World
pub mod Step
pub mod Kept
pub mod Refused
pub mod Run
pub mod Counts
pub mod Laws
pub mod inner
