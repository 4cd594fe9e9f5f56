pub mod Lines
pub mod Request
pub mod Answers
pub mod Live
pub mod Serving
pub mod inner
