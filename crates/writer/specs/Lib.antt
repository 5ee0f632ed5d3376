pub mod Faults
pub mod Words
pub mod Draft
pub mod Answer
pub mod Rewriting
