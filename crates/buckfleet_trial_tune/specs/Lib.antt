pub mod Tune
pub mod Serving
