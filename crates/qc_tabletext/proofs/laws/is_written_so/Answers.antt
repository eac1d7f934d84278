use Rattle.qc_tabletext.specs.TableText.{tables}
use Rattle.qc_tabletext.proofs.SameTexts.{is_read, is_written}
use Rattle.qc_tabletext.proofs.laws.is_written_so.Goals as goal

pub returns-clause-written : goal.returns-clause-written
returns-clause-written c = is_written tables

pub returns-clause-read : goal.returns-clause-read
returns-clause-read c = is_read tables
