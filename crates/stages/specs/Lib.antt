-- What the stages ask of a carrier and of a step.
pub mod Laws
