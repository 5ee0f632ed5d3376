pub mod Content
pub mod Encode
pub mod Decode
pub mod Held
