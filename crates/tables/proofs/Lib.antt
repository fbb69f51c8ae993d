-- Laws that serve proofs of code, and a table's beginning.
pub mod Rules
pub mod Closing
