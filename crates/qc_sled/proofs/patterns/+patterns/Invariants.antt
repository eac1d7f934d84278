use Rattle.std.proofs.Common.{◌+◌, ◌*◌, length}
use Rattle.qc_sled.proofs.patterns.+patterns.Given as goal

-- eleven times the tokens that are left, and more for a function that calls another before it takes a token
abbrev pub decreases-read_any_pattern : goal.decreases-read_any_pattern
decreases-read_any_pattern l = 11 * length l.cursor.now + 10

abbrev pub decreases-read_pattern : goal.decreases-read_pattern
decreases-read_pattern l = 11 * length l.cursor.now + 9

abbrev pub decreases-read_sequences : goal.decreases-read_sequences
decreases-read_sequences l = 11 * length l.cursor.now + 8

abbrev pub decreases-read_sequences-read_separated_by : goal.decreases-read_sequences-read_separated_by
decreases-read_sequences-read_separated_by l = 11 * length l.next.now + 7

abbrev pub decreases-read_sequence : goal.decreases-read_sequence
decreases-read_sequence l = 11 * length l.cursor.now + 6

abbrev pub decreases-read_conjunctions : goal.decreases-read_conjunctions
decreases-read_conjunctions l = 11 * length l.cursor.now + 5

abbrev pub decreases-read_conjunctions-read_separated_by : goal.decreases-read_conjunctions-read_separated_by
decreases-read_conjunctions-read_separated_by l = 11 * length l.next.now + 4

abbrev pub decreases-read_conjunction : goal.decreases-read_conjunction
decreases-read_conjunction l = 11 * length l.cursor.now + 3

abbrev pub decreases-read_atoms : goal.decreases-read_atoms
decreases-read_atoms l = 11 * length l.cursor.now + 2

abbrev pub decreases-read_atoms-read_separated_by : goal.decreases-read_atoms-read_separated_by
decreases-read_atoms-read_separated_by l = 11 * length l.next.now + 1

abbrev pub decreases-read_atom : goal.decreases-read_atom
decreases-read_atom l = 11 * length l.cursor.now
