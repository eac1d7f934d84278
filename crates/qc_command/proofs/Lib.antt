pub mod Apart
pub mod CommandLines
pub mod Pieces
pub mod Readings
pub mod SettingLemmas
pub mod UsageLemmas
