pub mod Numbers
pub mod Sheet
pub mod SheetA
pub mod Lawful
pub mod Bounded
