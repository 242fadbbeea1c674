pub mod Units
pub mod Turn
pub mod Words
pub mod Scans
pub mod Moves
pub mod Search
pub mod Drawn
