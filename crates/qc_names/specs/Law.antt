-- Lemmas on names and their faults that crates above may cite.
--
-- `Tables`: `names-any` (a table has a number for a name where it is one of its names), `has_entered`, `entered_more` (its
-- names after one more, and in a loop), `index-none`, `index-entered`, `index-there` (first places), `table-gives`,
-- `table-misses` (tables of what names stand for), `bytes_eq-symm`.
--
-- `Reported`: `both_assoc`, `both-none`, `reported-append`, `reported_two`, `reported_three`, `reported_four` (what is
-- reported of lists, one after the other), `reported_more` (in a loop).
--
-- `Seen`: `noted_append`, `noted_more` (names in a loop), `has_seen`, `has_noted_all` (which names were seen),
-- `seen_fault`, `noted_fault` (what is reported of them).
pub mod Reported
pub mod Seen
pub mod Tables
