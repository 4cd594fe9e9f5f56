pub mod Owned
pub mod inner
