-- Laws that serve proofs of code.
pub mod Offered
