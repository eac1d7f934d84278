use Rattle.std.proofs.Common.{◌∙◌, sym}
use Rattle.qc_descr.specs.CodingFaults.{bits_of_claims}
use Rattle.qc_descr.specs.Inner.Standing.{bit_is_right}
use Rattle.qc_descr.proofs.Standing.{below_fails}
use Rattle.qc_descr.proofs.coding_faults.operand_stands.Goals as goal

pub returns-then-not-bit_stands : goal.returns-then-not-bit_stands
returns-then-not-bit_stands c =
    sym (below_fails (bit_is_right c.args.operand c.args.dropped (bits_of_claims c.args.claims.now)) c.args.size
    c.loop-bit.bit c.loop-bit-test.true (sym c.bit_stands.ensures ∙ c.if-not-bit_stands.true))
