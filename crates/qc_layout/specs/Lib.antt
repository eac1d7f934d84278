pub mod ImageFaults
pub mod ImageFile
