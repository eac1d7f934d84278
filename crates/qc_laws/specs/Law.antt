-- Lemmas for the crates above: by `by_widths` what laws give has the widths that it needs, as `gives-holds` and `gives-width` say.
pub mod Widths
