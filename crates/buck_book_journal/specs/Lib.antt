pub mod Journal
pub mod Several
pub mod Faults
pub mod Written
pub mod Reading
