pub mod Dotted
pub mod Colons
pub mod Canonical
pub mod Steps
