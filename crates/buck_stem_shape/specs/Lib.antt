pub mod Stem
pub mod points
pub mod inner
