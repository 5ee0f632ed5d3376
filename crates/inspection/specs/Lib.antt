pub mod Inspection
pub mod Words
