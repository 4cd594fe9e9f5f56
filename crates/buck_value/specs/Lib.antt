pub mod Sheet
pub mod Volume
pub mod Allowed
pub mod Prepared
pub mod Wood
pub mod Untrimmed
