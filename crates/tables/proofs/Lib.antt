mod Halves
pub mod Saying
