-- What `dft` answers, as a function of its input's bytes.
pub mod Requests
pub mod Theorems
pub mod Refusals
