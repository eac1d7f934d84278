use Rattle.qc_core.proofs.NamedFiles.{reads_named, unread_is_written, written_is_unread}
use Rattle.qc_core.proofs.laws.commands_name_their_files.Goals as goal

pub returns-clause-read : goal.returns-clause-read
returns-clause-read c = reads_named

pub returns-clause-written : goal.returns-clause-written
returns-clause-written c = unread_is_written

pub returns-clause-no_other : goal.returns-clause-no_other
returns-clause-no_other c = written_is_unread
