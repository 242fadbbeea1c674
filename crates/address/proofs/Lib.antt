pub mod Runs
pub mod Reading
pub mod Taking
pub mod Whole
pub mod Canon
pub mod Quads
