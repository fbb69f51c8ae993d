-- The writer of numbers in groups: its outcome, and that reader and writer fit.
pub mod Outcomes
pub mod Theorems
