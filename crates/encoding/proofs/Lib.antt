pub mod Joining
pub mod EntryBytes
pub mod WholeEntries
