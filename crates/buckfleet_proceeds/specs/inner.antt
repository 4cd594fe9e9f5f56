pub mod Together
pub mod Logs
pub mod Passed
