pub mod WishLine
pub mod Wishes
pub mod Serving
pub mod inner
