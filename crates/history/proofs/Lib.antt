pub mod Turns
pub mod Lookups
pub mod Lent
