pub mod Owning
pub mod Opening
