pub mod Runs
pub mod Spelling
pub mod Numerals
pub mod Hexes
pub mod Texts
