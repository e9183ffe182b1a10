pub mod Calls
pub mod Answers
pub mod Lines
pub mod PlainList
pub mod RingAt
pub mod Law
