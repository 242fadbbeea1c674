pub mod Slashes
pub mod Memory
pub mod Spelling
pub mod Rewrites
