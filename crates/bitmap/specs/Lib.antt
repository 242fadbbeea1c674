pub mod Map
pub mod Whole
