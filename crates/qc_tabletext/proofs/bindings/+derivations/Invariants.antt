use Rattle.std.proofs.Common.{◌+◌, ◌*◌, length}
use Rattle.qc_tabletext.proofs.bindings.+derivations.Given as goal

-- nine times the tokens that are left, and more for a function that calls another before it takes a token
abbrev pub decreases-read_any_rest : goal.decreases-read_any_rest
decreases-read_any_rest l = 9 * length l.cursor.now + 8

abbrev pub decreases-read_rest : goal.decreases-read_rest
decreases-read_rest l = 9 * length l.cursor.now + 7

abbrev pub decreases-read_several : goal.decreases-read_several
decreases-read_several l = 9 * length l.cursor.now + 6

abbrev pub decreases-read_several-read_separated_by : goal.decreases-read_several-read_separated_by
decreases-read_several-read_separated_by l = 9 * length l.next.now + 5

abbrev pub decreases-read_binding : goal.decreases-read_binding
decreases-read_binding l = 9 * length l.cursor.now + 4

abbrev pub decreases-read_derived : goal.decreases-read_derived
decreases-read_derived l = 9 * length l.cursor.now + 3

abbrev pub decreases-read_register : goal.decreases-read_register
decreases-read_register l = 9 * length l.cursor.now + 3

abbrev pub decreases-read_given : goal.decreases-read_given
decreases-read_given l = 9 * length l.cursor.now + 3

abbrev pub decreases-read_parameter : goal.decreases-read_parameter
decreases-read_parameter l = 9 * length l.cursor.now + 2

abbrev pub decreases-read_cell_bound : goal.decreases-read_cell_bound
decreases-read_cell_bound l = 9 * length l.cursor.now + 2

abbrev pub decreases-read_constant : goal.decreases-read_constant
decreases-read_constant l = 9 * length l.cursor.now + 2

abbrev pub decreases-read_flag : goal.decreases-read_flag
decreases-read_flag l = 9 * length l.cursor.now + 2

abbrev pub decreases-read_child_of : goal.decreases-read_child_of
decreases-read_child_of l = 9 * length l.cursor.now + 1

abbrev pub decreases-read_derivation : goal.decreases-read_derivation
decreases-read_derivation l = 9 * length l.cursor.now + 1

abbrev pub decreases-read_bindings : goal.decreases-read_bindings
decreases-read_bindings l = 9 * length l.cursor.now + 1

abbrev pub decreases-read_child : goal.decreases-read_child
decreases-read_child l = 9 * length l.cursor.now
