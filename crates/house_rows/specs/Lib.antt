-- Powers of a root modulo m, the house rows, and settings.
pub mod Powers
pub mod Rows
pub mod Settings
