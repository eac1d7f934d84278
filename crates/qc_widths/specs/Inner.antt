-- Words of contracts of private functions.
pub mod Elaboration
pub mod KeptValues
pub mod Given
pub mod KeptEffects
pub mod Measure
pub mod Repeated
