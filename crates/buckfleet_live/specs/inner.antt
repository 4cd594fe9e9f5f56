-- What the crate's own functions show one another.
pub mod Reading
pub mod Answering
pub mod Running
