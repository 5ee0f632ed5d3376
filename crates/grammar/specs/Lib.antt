pub mod HandIn
pub mod Kind
pub mod ModelFile
pub mod File
pub mod Place
pub mod Step
