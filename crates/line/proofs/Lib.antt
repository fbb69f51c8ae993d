-- Laws that serve the proofs of the printing.
pub mod Puts
