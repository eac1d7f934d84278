-- What private functions answer.
pub mod FileTokens
