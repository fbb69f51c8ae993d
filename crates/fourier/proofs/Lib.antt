-- Theorems that an edit of a definition has to break.
pub mod Sentences
pub mod Embeddings
pub mod Halves
pub mod Leaves
pub mod Table
pub mod Numbers
pub mod Inverse
