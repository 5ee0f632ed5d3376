pub mod OneByOne
pub mod Lawful
pub mod Marks
pub mod ModelSteps
pub mod Completion
pub mod Going
pub mod HandIns
pub mod ModelFiles
