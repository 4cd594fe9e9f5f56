pub mod Bucking
pub mod Laws
pub mod Report
pub mod Text
pub mod inner
