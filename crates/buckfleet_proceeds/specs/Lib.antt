pub mod Paid
pub mod Appraisal
pub mod Text
pub mod Comparison
pub mod Serving
pub mod inner
