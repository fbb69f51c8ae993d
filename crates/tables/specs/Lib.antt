-- Tables in fixed point: the rules and acceptance alone.
pub mod Rules
pub mod Acceptance
