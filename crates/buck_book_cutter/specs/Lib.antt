pub mod Cut
pub mod inner
