pub mod Work
