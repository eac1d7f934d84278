pub mod Contexts
pub mod Inner
pub mod Law
pub mod NameFaults
pub mod Resolved
pub mod ResolvedEffects
pub mod Standing
pub mod Terms
