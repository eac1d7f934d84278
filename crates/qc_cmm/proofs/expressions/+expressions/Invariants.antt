use Rattle.std.proofs.Common.{◌+◌, ◌*◌, length}
use Rattle.qc_cmm.proofs.expressions.+expressions.Given as goal

-- six times the tokens that are left, and more for a function that calls another before it takes a token
abbrev pub decreases-read_operands : goal.decreases-read_operands
decreases-read_operands l = 6 * length l.cursor.now + 5

abbrev pub decreases-read_any_expr : goal.decreases-read_any_expr
decreases-read_any_expr l = 6 * length l.cursor.now + 4

abbrev pub decreases-read_expr : goal.decreases-read_expr
decreases-read_expr l = 6 * length l.cursor.now + 3

abbrev pub decreases-read_plain : goal.decreases-read_plain
decreases-read_plain l = 6 * length l.cursor.now + 2

abbrev pub decreases-read_load : goal.decreases-read_load
decreases-read_load l = 6 * length l.cursor.now + 1

abbrev pub decreases-read_address : goal.decreases-read_address
decreases-read_address l = 6 * length l.cursor.now

abbrev pub decreases-read_applied_prim : goal.decreases-read_applied_prim
decreases-read_applied_prim l = 6 * length l.cursor.now

abbrev pub decreases-read_applied_input : goal.decreases-read_applied_input
decreases-read_applied_input l = 6 * length l.cursor.now
