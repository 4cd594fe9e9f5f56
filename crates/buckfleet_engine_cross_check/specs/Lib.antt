pub mod Answers
pub mod Serving
pub mod Ties
pub mod inner
