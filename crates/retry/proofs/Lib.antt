pub mod Numbering
pub mod Soundness
pub mod ValuesOfA
