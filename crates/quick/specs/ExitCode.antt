-- The exit codes of the process.
use Rattle.std.specs.Prelude.{ℕ}
use Rattle.qc_core.specs.declared.answer.Status.{Status}
use Rattle.qc_core.specs.declared.answer.Status.TheVariants.{Done, Refused, Usage, ReadFault, WriteFault, OutFault}
use Rattle.qc_core.specs.declared.answer.Status.TheVariants.{NoMemory}

-- the exit code that tells a status
abbrev pub exit_code_of : Status → ℕ
exit_code_of Done = 0
exit_code_of (Refused fault) = 1
exit_code_of (Usage word) = 2
exit_code_of (ReadFault file) = 3
exit_code_of WriteFault = 4
exit_code_of OutFault = 5
exit_code_of NoMemory = 6
