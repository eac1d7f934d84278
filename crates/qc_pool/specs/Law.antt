-- Lemmas for the crates above. Of pools that grow: `at_id`, `still_at`, `added_at`, `added_keeps`, `kept_on`, `kept_id`,
-- `there_on`. Of widths: `typed_has_widths`.
pub mod Kept
pub mod Typed
