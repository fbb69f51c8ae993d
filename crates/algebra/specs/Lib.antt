-- The algebra on which the schedules stand.
pub mod Gaps
pub mod Ring
pub mod Solver
pub mod Sum
pub mod Modulo
pub mod Integers
