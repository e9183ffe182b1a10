pub mod Bags
pub mod Modulo
pub mod Pastes
pub mod Prefixes
pub mod Turns
