pub mod Text
pub mod Names
pub mod Commands
pub mod Mistakes
