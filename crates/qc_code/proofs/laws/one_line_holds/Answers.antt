use Rattle.qc_code.proofs.OneLine.{one_line, one_line_accesses}
use Rattle.qc_code.proofs.laws.one_line_holds.Goals as goal

pub returns-clause-holds : goal.returns-clause-holds
returns-clause-holds c = one_line

pub returns-clause-accesses : goal.returns-clause-accesses
returns-clause-accesses c = one_line_accesses
