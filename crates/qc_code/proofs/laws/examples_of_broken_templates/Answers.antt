use Rattle.qc_code.proofs.Broken as broken
use Rattle.qc_code.proofs.laws.examples_of_broken_templates.Goals as goal

pub returns-clause-writes : goal.returns-clause-writes
returns-clause-writes c = broken.writes

pub returns-clause-reads : goal.returns-clause-reads
returns-clause-reads c = broken.reads

pub returns-clause-sets : goal.returns-clause-sets
returns-clause-sets c = broken.sets

pub returns-clause-scratches : goal.returns-clause-scratches
returns-clause-scratches c = broken.scratches

pub returns-clause-flag : goal.returns-clause-flag
returns-clause-flag c = broken.flag

pub returns-clause-after : goal.returns-clause-after
returns-clause-after c = broken.after

pub returns-clause-cell : goal.returns-clause-cell
returns-clause-cell c = broken.cell

pub returns-clause-aligned : goal.returns-clause-aligned
returns-clause-aligned c = broken.aligned

pub returns-clause-link : goal.returns-clause-link
returns-clause-link c = broken.link

pub returns-clause-reload : goal.returns-clause-reload
returns-clause-reload c = broken.reload

pub returns-clause-spill : goal.returns-clause-spill
returns-clause-spill c = broken.spill

pub returns-clause-call : goal.returns-clause-call
returns-clause-call c = broken.call

pub returns-clause-branch : goal.returns-clause-branch
returns-clause-branch c = broken.branch

pub returns-clause-registers : goal.returns-clause-registers
returns-clause-registers c = broken.registers

pub returns-clause-reach : goal.returns-clause-reach
returns-clause-reach c = broken.reach
