pub mod Same
pub mod Sound
pub mod Distinct
pub mod Added
pub mod Apart
pub mod Interned
