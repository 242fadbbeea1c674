pub mod Truth
pub mod Below
pub mod Lies
pub mod Halving
pub mod Depths
pub mod Opening
pub mod Ranges
