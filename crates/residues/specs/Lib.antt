-- Residues modulo m: the permitted moduli, the judgement of tables and samples, a table's beginning.
pub mod Moduli
pub mod Judgement
pub mod Beginnings
