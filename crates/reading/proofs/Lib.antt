-- Laws that serve proofs of code, and those that rest on the order of the refusals.
pub mod Filling
pub mod Steps
pub mod Theorems
