pub mod Mates
pub mod Tables
pub mod Vocabularies
