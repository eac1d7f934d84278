use Rattle.qc_descr.proofs.coding_bytes.token_byte.Goals as goal
use Rattle.qc_descr.proofs.coding_bytes.token_byte.Goals.{in-Little, in-Big}
use Rattle.qc_descr.specs.Law.Places.{little_byte, big_byte}

pub returns-clause-is : goal.returns-clause-is
returns-clause-is c =
    elim c.match-order.branch [
      | in-Little w ↦ little_byte _ _ _ _ c.args.bits.now w.in-Little.is w.from_lowest-is c.requires.place
      | in-Big w ↦ big_byte _ _ _ _ c.args.bits.now w.in-Big.is w.from_lowest-is c.requires.place
    ]
