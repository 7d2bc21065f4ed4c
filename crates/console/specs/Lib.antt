pub mod Answers
pub mod Inputs
pub mod Outputs
pub mod Processing
pub mod Programs
pub mod Reports
