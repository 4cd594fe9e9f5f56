-- What the crate's own functions show one another.
pub mod Zones
pub mod Body
pub mod Runs
pub mod ProfileTables
pub mod Diameters
