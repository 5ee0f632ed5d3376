pub mod Digits
pub mod EntryLists
pub mod Exactness
pub mod Return
pub mod Standing
