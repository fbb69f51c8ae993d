-- The schedules, and what they compute.
pub mod Sizes
pub mod Reverse
pub mod Schedules
pub mod Sentences
pub mod Array
pub mod Embeddings
pub mod Blocks
pub mod Halves
pub mod Leaves
pub mod Fourier
pub mod Inverse
pub mod Table
pub mod Numbers
