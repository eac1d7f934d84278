-- Lemmas for crates above: `spaced-append` and `after_separators` of `PrintedWords`.
pub mod PrintedWords
