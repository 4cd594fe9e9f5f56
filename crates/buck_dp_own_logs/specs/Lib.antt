pub mod Reasons
pub mod Judged
pub mod inner
