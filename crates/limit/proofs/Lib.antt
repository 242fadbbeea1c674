pub mod Opening
pub mod Searching
pub mod Holding
pub mod Walking
pub mod Rationing
