pub mod Sums
pub mod Zeros
pub mod Expect
pub mod Bests
pub mod Values
