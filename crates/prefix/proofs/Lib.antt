pub mod Making
pub mod Trees
pub mod Shifting
pub mod Groups
