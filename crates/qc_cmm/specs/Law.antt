-- Crates above may cite: `program_texts` of `Texts`; `vocabulary_respelled` of `Respelled`; `light_program`, `light_file`
-- and `light_answer` of `Weight`; `is_written` and `is_read` of `SamePrograms`.
pub mod Respelled
pub mod SamePrograms
pub mod Texts
pub mod Weight
