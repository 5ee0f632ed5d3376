pub mod Exact
pub mod Reading
pub mod Format
pub mod Faults
pub mod Words
pub mod Answer
