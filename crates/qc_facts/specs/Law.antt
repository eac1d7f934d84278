-- Lemmas on places of names that crates above may cite.
--
-- `Places`: `placed-first` (the place of what has a name), `placed-stands` (what is found stands there), `table-entered`,
-- `table-some`, `table-none_at` (tables of spaces).
pub mod Places
