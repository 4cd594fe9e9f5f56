pub mod BarLemmas
pub mod Harvested
pub mod Harvests
pub mod Owned
pub mod Parts
pub mod Runs
pub mod Served
