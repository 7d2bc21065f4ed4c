pub mod Taking
pub mod Joining
pub mod Printing
