pub mod Answering
pub mod Concluding
pub mod Lining
pub mod Naming
pub mod Pushing
pub mod Reaching
pub mod Running
