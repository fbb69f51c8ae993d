-- What the work of a schedule leaves.
pub mod Works
