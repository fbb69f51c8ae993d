-- Laws that serve proofs of code.
pub mod Reversal
pub mod Exponents
