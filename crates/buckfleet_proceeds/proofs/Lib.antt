pub mod Bought
pub mod Logs
pub mod Cuts
pub mod Passed
pub mod Stopped
pub mod Both
pub mod Answered
pub mod Texts
