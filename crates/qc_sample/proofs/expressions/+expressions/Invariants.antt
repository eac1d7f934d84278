use Rattle.std.proofs.Common.{◌+◌, ◌*◌, length}
use Rattle.qc_sample.proofs.expressions.+expressions.Given as goal

-- five times the tokens that are left, and more for a function that calls another before it takes a token
abbrev pub decreases-read_arguments : goal.decreases-read_arguments
decreases-read_arguments l = 5 * length l.cursor.now + 4

abbrev pub decreases-read_exprs : goal.decreases-read_exprs
decreases-read_exprs l = 5 * length l.cursor.now + 3

abbrev pub decreases-read_exprs-read_separated_by : goal.decreases-read_exprs-read_separated_by
decreases-read_exprs-read_separated_by l = 5 * length l.next.now + 2

abbrev pub decreases-read_any_expr : goal.decreases-read_any_expr
decreases-read_any_expr l = 5 * length l.cursor.now + 1

abbrev pub decreases-read_expr : goal.decreases-read_expr
decreases-read_expr l = 5 * length l.cursor.now

abbrev pub decreases-read_after_name : goal.decreases-read_after_name
decreases-read_after_name l = 5 * length l.cursor.now
