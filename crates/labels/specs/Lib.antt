pub mod Least
pub mod Labels
