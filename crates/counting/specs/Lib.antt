-- What is counted.
pub mod Exponents
