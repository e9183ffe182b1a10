mod Refusing
mod Predicates
mod Balance
pub mod PlainLaws
mod RingLaw
pub mod Histories
