use Rattle.std.proofs.Common.{◌+◌, ◌*◌, length}
use Rattle.qc_sample.proofs.reader.+statements.Given as goal

-- four times the tokens that are left, and more for a function that calls another before it takes a token
abbrev pub decreases-read_statements : goal.decreases-read_statements
decreases-read_statements l = 4 * length l.cursor.now + 3

abbrev pub decreases-read_statements-read_many_by+arg4 : goal.decreases-read_statements-read_many_by+arg4
decreases-read_statements-read_many_by+arg4 l = 4 * length l.next.now + 2

abbrev pub decreases-read_any_statement : goal.decreases-read_any_statement
decreases-read_any_statement l = 4 * length l.cursor.now + 1

abbrev pub decreases-read_statement : goal.decreases-read_statement
decreases-read_statement l = 4 * length l.cursor.now
