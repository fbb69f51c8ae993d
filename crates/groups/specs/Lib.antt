-- Numbers in groups of seven bits.
pub mod Bases
pub mod Groups
pub mod Theorems
