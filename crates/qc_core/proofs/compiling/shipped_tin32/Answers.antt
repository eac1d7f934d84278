use Rattle.qc_core.proofs.Shipped.{no_coding, no_machine}
use Rattle.qc_core.proofs.compiling.shipped_tin32.Goals as goal

pub returns-in-Err-Refused-clause-none : goal.returns-in-Err-Refused-clause-none
returns-in-Err-Refused-clause-none c =
    no_machine c.lower_laws.ensures.tokens c.in-Err-Refused.field-0-0 (rw c.in-Err-Refused.field-0-is at c.in-Err-Refused.ensures.stops)

pub returns-in-Err-Refused-description_in-clause-none : goal.returns-in-Err-Refused-description_in-clause-none
returns-in-Err-Refused-description_in-clause-none c =
    no_coding c.lower_laws.ensures.tokens c.in-Ok.machine c.in-Err-Refused-description_in.field-0-0 c.in-Ok.ensures.machine
    (rw c.in-Err-Refused-description_in.field-0-is at c.in-Err-Refused-description_in.ensures.stops)
