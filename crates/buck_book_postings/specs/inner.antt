pub mod Running
pub mod Places
pub mod Pricing
pub mod Parts
