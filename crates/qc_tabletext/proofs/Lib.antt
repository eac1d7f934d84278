mod BoundedTexts
mod RespelledTexts
mod SameTexts
pub mod Writing
