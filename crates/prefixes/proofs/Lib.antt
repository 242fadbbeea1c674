pub mod Parts
pub mod Feeds
