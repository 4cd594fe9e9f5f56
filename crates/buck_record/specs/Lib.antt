pub mod bytes
pub mod Item
pub mod Reading
pub mod checking
pub mod writing
pub mod pass
pub mod inner
