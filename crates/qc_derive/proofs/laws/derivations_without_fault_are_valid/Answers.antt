use Rattle.qc_derive.proofs.Faults.{fault_free, valid_free}
use Rattle.qc_derive.proofs.laws.derivations_without_fault_are_valid.Goals as goal

pub returns-clause-valid : goal.returns-clause-valid
returns-clause-valid c = fault_free

pub returns-clause-whole : goal.returns-clause-whole
returns-clause-whole c = valid_free
