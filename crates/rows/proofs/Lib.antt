pub mod RowFacts
