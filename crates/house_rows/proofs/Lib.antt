-- Laws of what specs/ defines, and of loops.
pub mod Powers
pub mod Rows
