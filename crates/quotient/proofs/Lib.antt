mod Lawfulness
mod ByClass
pub mod Quotients
mod Below
mod Listed
