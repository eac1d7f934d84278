pub mod Cache
pub mod InputFile
