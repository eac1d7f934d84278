-- Laws of code, for crates above: Machine has that code is a machine of lines (`lines_at_are`, `lines_by_aim_are`); Landing has where
-- words lead (`words_land`); Values, Effects and Outcomes have that what a fine line reads and does is the same at all addresses but
-- for marked words (`same_reads`, `fine_too`, `all_both`, `outcomes_alike`); Views and After have the same of virtual registers
-- (`seen_agree`, `after_together`); Kept has what a fine line keeps; Independent has that a run at one placing is followed at another
-- (`grouped`), and Placings that tame code means the same at all of them (`tame_means_the_same`); Valid has that descriptions suit
-- (`valid_suits`). MachineTurns has that a described machine turns in time (`machine_turns_in_time`). Cells, Bytes and Writes have what
-- a write leaves.
pub mod After
pub mod Agree
pub mod Bytes
pub mod Cells
pub mod Effects
pub mod Homes
pub mod Independent
pub mod Invariant
pub mod Kept
pub mod Landing
pub mod Machine
pub mod MachineTurns
pub mod Outcomes
pub mod Placings
pub mod Sound
pub mod Valid
pub mod Values
pub mod Views
pub mod Writes
