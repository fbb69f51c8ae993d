-- The outcome of a request.
pub mod Outcomes
