-- Laws that serve proofs of code.
pub mod Blocks
pub mod Cuts
pub mod Sizes
pub mod Going
pub mod Shuffled
pub mod ByHalves
