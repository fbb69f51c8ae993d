-- Laws that serve proofs of code.
pub mod Asked
