use Rattle.std.proofs.Common.{◌+◌, ◌*◌, length}
use Rattle.qc_cmm.proofs.statements.+statements.Given as goal

-- six times the tokens that are left, and more for a function that calls another before it takes a token
abbrev pub decreases-read_statements : goal.decreases-read_statements
decreases-read_statements l = 6 * length l.cursor.now + 5

abbrev pub decreases-read_statements-read_many_by+arg4 : goal.decreases-read_statements-read_many_by+arg4
decreases-read_statements-read_many_by+arg4 l = 6 * length l.next.now + 4

abbrev pub decreases-read_any_statement : goal.decreases-read_any_statement
decreases-read_any_statement l = 6 * length l.cursor.now + 3

abbrev pub decreases-read_statement : goal.decreases-read_statement
decreases-read_statement l = 6 * length l.cursor.now + 2

abbrev pub decreases-read_keyed : goal.decreases-read_keyed
decreases-read_keyed l = 6 * length l.cursor.now + 1

abbrev pub decreases-read_conditional : goal.decreases-read_conditional
decreases-read_conditional l = 6 * length l.cursor.now

abbrev pub decreases-read_block : goal.decreases-read_block
decreases-read_block l = 6 * length l.cursor.now
