pub mod Guests
pub mod Laws
