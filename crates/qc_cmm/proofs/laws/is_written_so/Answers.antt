use Rattle.qc_cmm.specs.Cmm.{program}
use Rattle.qc_cmm.specs.Law.SamePrograms.{is_read, is_written}
use Rattle.qc_cmm.proofs.laws.is_written_so.Goals as goal

pub returns-clause-written : goal.returns-clause-written
returns-clause-written c = is_written program

pub returns-clause-read : goal.returns-clause-read
returns-clause-read c = is_read program
