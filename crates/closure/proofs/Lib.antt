pub mod Chains
pub mod BelowFacts
pub mod Decided
pub mod Places
pub mod Rows
pub mod Pairs
pub mod Exactness
