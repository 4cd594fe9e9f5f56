pub mod Handles
pub mod Ruled
