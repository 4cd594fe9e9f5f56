pub mod Table
pub mod Sweep
pub mod Runs
pub mod Serving
pub mod inner
