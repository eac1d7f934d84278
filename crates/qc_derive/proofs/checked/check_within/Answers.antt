use Rattle.std.proofs.Common.{◌∙◌, sym, refl}
use Rattle.qc_derive.proofs.Faults.{fault_free}
use Rattle.qc_derive.proofs.checked.check_within.Goals as goal

pub returns-in_ok-sequence-in-None : goal.returns-in_ok-sequence-in-None
returns-in_ok-sequence-in-None c = record {
  valid = fault_free c.args.descr.now c.args.tile.now c.args.bounds c.args.derivation (sym c.in_ok-fault.ensures ∙ c.in-None.is);
  same = refl;
  tile = refl;
  sequence = c.in_ok-sequence-in-None.ensures;
}
