-- Laws that serve the proofs of the writer.
pub mod Writing
