pub mod Bucking
pub mod Checking
pub mod Serving
