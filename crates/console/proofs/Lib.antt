pub mod Answering
pub mod Lines
pub mod Processed
pub mod Reading
pub mod Records
pub mod Writing
