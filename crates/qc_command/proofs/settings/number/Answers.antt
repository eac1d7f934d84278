use Rattle.std.proofs.Common.{arith, sym}
use Rattle.qc_command.proofs.Readings.{read_number}
use Rattle.qc_command.proofs.settings.number.Goals as goal

pub returns : goal.returns
returns c = rw c.ok.ensures.value
    (read_number c.args.digits.now _ c.parse.ensures.value.0 (sym c.if-not-are_digits.ensures) (omega arith))
