pub mod Sound
pub mod Ring
pub mod Refusals
pub mod Sifting
pub mod Plain
pub mod Moves
pub mod Writes
pub mod Rows
