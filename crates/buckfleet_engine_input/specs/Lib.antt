pub mod Harvest
