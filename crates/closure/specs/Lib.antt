pub mod Closure
pub mod Decide
