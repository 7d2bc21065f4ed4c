pub mod Table
pub mod Tests
pub mod House
pub mod Laws
