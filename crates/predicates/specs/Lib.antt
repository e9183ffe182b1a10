pub mod Showing
pub mod Kinds
pub mod Choice
