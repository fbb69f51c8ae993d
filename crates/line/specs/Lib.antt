-- What `dft` prints.
pub mod Lines
pub mod Outcomes
