-- Laws that serve proofs of code.
pub mod Writes
pub mod Parts
pub mod Pairs
pub mod Swaps
pub mod Lists
pub mod Lengths
pub mod Search
