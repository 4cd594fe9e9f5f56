pub mod Cuts
pub mod Wanted
