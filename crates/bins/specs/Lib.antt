pub mod Pairs
pub mod Trays
pub mod Choices
