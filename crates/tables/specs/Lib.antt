pub mod Said
pub mod Held
pub mod Rows
pub mod Halves
pub mod Tabled
pub mod Alike
pub mod Bounds
