use Rattle.std.proofs.Common.{arith, refl}
use Rattle.qc_command.specs.Command.{texts_of}
use Rattle.qc_descr.specs.declared.description.Description.{Description}
use Rattle.qc_core.specs.Compilation.{tables_reading, tables_step, tin32_reading}
use Rattle.qc_core.proofs.Exactness.{tin32_up_to}
use Rattle.qc_core.proofs.Readings.{read_after, same_end, same_value, still_read, stopped}
use Rattle.qc_core.proofs.compiling.read_described.Goals as goal

pub read_tables-requires-clause-read : goal.read_tables-requires-clause-read
read_tables-requires-clause-read g c =
    still_read (tin32_reading (texts_of c.args.names.now)) (λ (d : Description). d) c.in-Ok.descr _ _ _ _ c.in-Ok.ensures.reads

pub returns-in-Err-clause-reads : goal.returns-in-Err-clause-reads
returns-in-Err-clause-reads g c =
    let names = texts_of c.args.names.now in
    stopped (tin32_reading names) (tables_step names) (λ (d : Description). d) (λ (d : Description). d) (tin32_up_to names 3 (omega arith)) c.in-Err.status _ _ _ _
    c.in-Err.ensures.reads

pub returns-in-Ok-read_tables-clause-reads : goal.returns-in-Ok-read_tables-clause-reads
returns-in-Ok-read_tables-clause-reads g c =
    let names = texts_of c.args.names.now in
    same_value (tables_reading names) (λ (done : Unit {0}). c.in-Ok.descr) (λ (d : Description). d) tt c.in-Ok.descr _ _ _ _ refl
    (read_after (tin32_reading names) (λ (d : Description). d) (tables_reading names) (λ (done : Unit {0}). c.in-Ok.descr) c.in-Ok.descr _ _ _ _ _ _ _
    c.in-Ok.ensures.reads c.in-Ok-read_tables.ensures)

pub returns-in-Err-read_tables-clause-reads : goal.returns-in-Err-read_tables-clause-reads
returns-in-Err-read_tables-clause-reads g c =
    let names = texts_of c.args.names.now in
    same_end (tables_reading names) (λ (done : Unit {0}). c.in-Ok.descr) (λ (d : Description). d) c.in-Err-read_tables.status _ _ _ _
    (read_after (tin32_reading names) (λ (d : Description). d) (tables_reading names) (λ (done : Unit {0}). c.in-Ok.descr) c.in-Ok.descr _ _ _ _ _ _ _
    c.in-Ok.ensures.reads c.in-Err-read_tables.ensures)
