-- The filling of tables over residues.
pub mod Filling
