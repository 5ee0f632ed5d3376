pub mod Model
pub mod Sums
pub mod Sound
pub mod Values
