-- Points in buffers, and their sizes.
pub mod Buffers
pub mod Sizes
pub mod Scans
