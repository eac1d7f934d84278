use Rattle.qc_conditions.proofs.laws.sequences_are_templates.Goals as goal
use Rattle.qc_conditions.proofs.Addresses.{aligned, branches}
use Rattle.qc_conditions.proofs.AllWrites.{writes}
use Rattle.qc_conditions.proofs.Singles.{link, slots}

pub returns-clause-link : goal.returns-clause-link
returns-clause-link c = link

pub returns-clause-aligned : goal.returns-clause-aligned
returns-clause-aligned c = aligned

pub returns-clause-branches : goal.returns-clause-branches
returns-clause-branches c = branches

pub returns-clause-slots : goal.returns-clause-slots
returns-clause-slots c = slots

pub returns-clause-writes : goal.returns-clause-writes
returns-clause-writes c = writes
