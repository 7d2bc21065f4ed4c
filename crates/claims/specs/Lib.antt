pub mod Claiming
