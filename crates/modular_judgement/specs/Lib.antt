-- What the calls over residues answer, and what it means that they answer 0.
pub mod Verdicts
pub mod Schedules
pub mod Ready
