pub mod Answering
pub mod Standing
pub mod Calling
