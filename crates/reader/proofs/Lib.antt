pub mod Steps
pub mod Stands
pub mod OneTrue
pub mod WholeFiles
