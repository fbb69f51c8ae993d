-- Laws that serve the proofs of the program.
pub mod Input
