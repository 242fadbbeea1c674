pub mod Tree
pub mod Sound
