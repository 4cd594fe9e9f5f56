pub mod Ties
