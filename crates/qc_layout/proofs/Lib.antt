pub mod FirstFaults
pub mod FoundImages
pub mod Headers
pub mod ImageFiles
pub mod WrittenImages
