pub mod Contents
pub mod Edited
pub mod Gathered
pub mod Laid
pub mod Sifting
pub mod Sifts
