use Rattle.std.proofs.Common.{arith}
use Rattle.qc_command.specs.Command.{texts_of}
use Rattle.qc_descr.specs.declared.description.Description.{Description}
use Rattle.qc_widths.specs.declared.machine.Machine.{Machine}
use Rattle.qc_core.specs.Texts.{coding_step, description_reading, machine_reading}
use Rattle.qc_core.proofs.Checks.{machine_up_to}
use Rattle.qc_core.proofs.Readings.{read_after, still_read, stopped}
use Rattle.qc_core.proofs.descriptions.read_description.Goals as goal

pub read_coding-requires-clause-read : goal.read_coding-requires-clause-read
read_coding-requires-clause-read g c =
    still_read (machine_reading (texts_of c.args.names.now)) (λ (machine : Machine). machine) c.in-Ok.machine _ _ _ _ c.in-Ok.ensures.reads

pub returns-in-Ok-clause-reads : goal.returns-in-Ok-clause-reads
returns-in-Ok-clause-reads g c =
    let names = texts_of c.args.names.now in
    read_after (machine_reading names) (λ (machine : Machine). machine) (description_reading names) (λ (d : Description). d) c.in-Ok.machine c.read_coding.result _ _ _ _ _ _
    c.in-Ok.ensures.reads c.read_coding.ensures.reads

pub returns-in-Err-clause-reads : goal.returns-in-Err-clause-reads
returns-in-Err-clause-reads g c =
    let names = texts_of c.args.names.now in
    stopped (machine_reading names) (coding_step names) (λ (machine : Machine). machine) (λ (d : Description). d) (machine_up_to names 2 (omega arith)) c.in-Err.status _ _ _ _
    c.in-Err.ensures.reads
