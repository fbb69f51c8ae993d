-- What the rules of a table in fixed point ask of its pairs.
pub mod Pairs
