-- The sine table, and the filling of tables from it.
pub mod Constant
pub mod Sine
pub mod Filling
