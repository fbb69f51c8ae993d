-- Laws that serve proofs of code, and that the tables of the constant are accepted.
pub mod Numbers
pub mod Sine
pub mod Filled
pub mod Beginnings
