pub mod Words
pub mod Limits
pub mod OnePass
pub mod Tuples
pub mod Walk
