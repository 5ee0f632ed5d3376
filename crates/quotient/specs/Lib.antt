pub mod Classes
pub mod Quotient
pub mod Working
