-- The public calls in fixed point: their outcomes, and what follows from them.
pub mod Outcomes
pub mod Theorems
