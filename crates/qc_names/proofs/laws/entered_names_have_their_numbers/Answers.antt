use Rattle.qc_names.specs.Law.Tables.{number-entered}
use Rattle.qc_names.proofs.laws.entered_names_have_their_numbers.Goals as goal

pub returns : goal.returns
returns c = number-entered
