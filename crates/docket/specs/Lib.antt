pub mod Phases
pub mod Fields
pub mod Tags
pub mod Dockets
pub mod Calls
pub mod Questions
pub mod Conclusions
pub mod Runs
