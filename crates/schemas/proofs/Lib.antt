pub mod Entries
pub mod Soundness
pub mod FromTests
pub mod ToTests
pub mod Agreement
pub mod HouseLaws
pub mod Extending
