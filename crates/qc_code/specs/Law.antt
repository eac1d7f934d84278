-- Laws of templates, for proofs here and in the crates above.
-- Running: runs of lists one after another (`run_of-append`, `run_of-ended`, `transfers_from-append`).
-- Same: states that are the same on cells (`same_on-refl`, `same_on-trans`, `same_on-sym`, `same_on-less`).
-- Operands: operands by their numbers (`operand_at`, `parameter_kind`, `target_kind`, `tile_operands_in`), what names operands
-- as what they are fits them (`term_fits`, `rtl_fits`), and what is typed stays so where there are more cells (`typed_wider`,
-- `rtl_wider`, `state_is_wider`).
-- Slots: terms of constants (`constant_value_is`, `constant_value-lt`), and the operands of lines (`slot_in`, `slots_in`,
-- `tile_is_ready`, `line_is_ready`).
-- Quiet: lists that write registers alone (`writes_are_cells`, `cells_keep`, `cells_are_quiet`, `registers_pass`).
-- Through: no line but the last leaves a template where each but the last writes registers alone (`writes_go_through`).
pub mod Operands
pub mod Quiet
pub mod Running
pub mod Same
pub mod Slots
pub mod Through
