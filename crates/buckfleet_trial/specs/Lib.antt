pub mod Light
pub mod Lines
pub mod Parts
pub mod Running
pub mod Inputs
pub mod Trial
pub mod Serving
pub mod inner
