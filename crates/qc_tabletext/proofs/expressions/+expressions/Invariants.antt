use Rattle.std.proofs.Common.{◌+◌, ◌*◌, length}
use Rattle.qc_tabletext.proofs.expressions.+expressions.Given as goal

-- seven times the tokens that are left, and more for a function that calls another before it takes a token
abbrev pub decreases-read_arguments : goal.decreases-read_arguments
decreases-read_arguments l = 7 * length l.cursor.now + 6

abbrev pub decreases-read_exprs : goal.decreases-read_exprs
decreases-read_exprs l = 7 * length l.cursor.now + 5

abbrev pub decreases-read_exprs-read_separated_by : goal.decreases-read_exprs-read_separated_by
decreases-read_exprs-read_separated_by l = 7 * length l.next.now + 4

abbrev pub decreases-read_any_expr : goal.decreases-read_any_expr
decreases-read_any_expr l = 7 * length l.cursor.now + 3

abbrev pub decreases-read_expr : goal.decreases-read_expr
decreases-read_expr l = 7 * length l.cursor.now + 2

abbrev pub decreases-read_sized : goal.decreases-read_sized
decreases-read_sized l = 7 * length l.cursor.now + 1

abbrev pub decreases-read_after_name : goal.decreases-read_after_name
decreases-read_after_name l = 7 * length l.cursor.now

abbrev pub decreases-read_loaded : goal.decreases-read_loaded
decreases-read_loaded l = 7 * length l.cursor.now

abbrev pub decreases-read_zero_extended : goal.decreases-read_zero_extended
decreases-read_zero_extended l = 7 * length l.cursor.now

abbrev pub decreases-read_sign_extended : goal.decreases-read_sign_extended
decreases-read_sign_extended l = 7 * length l.cursor.now

abbrev pub decreases-read_sliced : goal.decreases-read_sliced
decreases-read_sliced l = 7 * length l.cursor.now

abbrev pub decreases-read_address : goal.decreases-read_address
decreases-read_address l = 7 * length l.cursor.now

abbrev pub decreases-read_argument : goal.decreases-read_argument
decreases-read_argument l = 7 * length l.cursor.now
