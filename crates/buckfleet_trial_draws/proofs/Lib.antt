pub mod Steps
pub mod Permuted
pub mod Mapped
