pub mod Diameters
pub mod Zones
pub mod RunLemmas
pub mod Tables
