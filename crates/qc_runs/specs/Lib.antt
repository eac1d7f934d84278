pub mod Automaton
pub mod Law
pub mod LineMachine
pub mod Placing
pub mod Simulation
pub use Rattle.qc_terms.specs.Observation
