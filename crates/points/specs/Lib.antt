-- Complex numbers in fixed point: rounding, the steps of a stage, the distance and the growth, buffers of points.
pub mod Rounding
pub mod Steps
pub mod Distance
pub mod Growth
pub mod Interleaved
