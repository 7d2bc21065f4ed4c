pub mod Firsts
pub mod Items
pub mod Models
pub mod FormProps
pub mod EdgeParts
pub mod Pairs
pub mod Evaluation
pub mod Judging
