pub mod Premises
pub mod Schemas
pub mod Calculi
pub mod Banks
