pub mod Offsets
pub mod Reading
pub mod Rest
pub mod Bodies
