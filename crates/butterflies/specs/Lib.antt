-- What residues in a buffer, and the steps on them, keep.
pub mod Laws
