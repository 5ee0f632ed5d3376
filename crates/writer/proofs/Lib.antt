pub mod Steps
pub mod Drafts
pub mod Puts
pub mod Copies
