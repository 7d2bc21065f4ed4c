pub mod LeastFacts
pub mod Walking
pub mod RowFacts
pub mod WordSearch
pub mod WordTests
pub mod WordWriting
