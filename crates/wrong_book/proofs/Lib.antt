pub mod Plans
pub mod Read
pub mod Lawful
pub mod Texts
pub mod Faults
