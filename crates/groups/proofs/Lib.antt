-- Laws that serve the proofs of the reader, and those that rest on the last byte's fault.
pub mod Reading
pub mod Theorems
