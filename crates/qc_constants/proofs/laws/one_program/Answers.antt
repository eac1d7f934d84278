use Rattle.qc_constants.proofs.ProgramTexts.{one_program}
use Rattle.qc_constants.proofs.laws.one_program.Goals as goal

pub returns : goal.returns
returns c = one_program
