pub mod Agreeing
pub mod Climb
pub mod Hits
pub mod Moves
pub mod Made
pub mod Drawn
