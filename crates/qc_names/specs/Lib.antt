pub mod ValueTables
pub mod Law
pub mod Reported
pub mod Seen
pub mod Tables
