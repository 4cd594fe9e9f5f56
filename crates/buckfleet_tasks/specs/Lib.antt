pub mod Combinations
