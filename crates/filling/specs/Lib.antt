pub mod Giving
pub mod Fills
pub mod Counted
pub mod Placed
pub mod Faults
