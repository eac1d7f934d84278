use Rattle.std.proofs.Common.{arith, refl}
use Rattle.qc_command.specs.Command.{texts_of}
use Rattle.qc_constants.specs.declared.program.ConstantProgram.{ConstantProgram}
use Rattle.qc_descr.specs.declared.description.Description.{Description}
use Rattle.qc_core.specs.Compilation.{compile_reading, program_step, tables_reading}
use Rattle.qc_core.proofs.Exactness.{tables_up_to}
use Rattle.qc_core.proofs.Readings.{read_after, same_end, same_value, still_read, stopped}
use Rattle.qc_core.proofs.compiling.read_compilation.Goals as goal

pub read_constants-requires-clause-read : goal.read_constants-requires-clause-read
read_constants-requires-clause-read g c =
    still_read (tables_reading (texts_of c.args.names.now)) (λ (d : Description). d) c.in-Ok.descr _ _ _ _ c.in-Ok.ensures.reads

pub returns-in-Err-clause-reads : goal.returns-in-Err-clause-reads
returns-in-Err-clause-reads g c =
    let names = texts_of c.args.names.now in
    stopped (tables_reading names) (program_step names) (λ (d : Description). d) (λ (x : Description × ConstantProgram). (x.0, x.1)) (tables_up_to names 4 (omega arith)) c.in-Err.status _ _ _ _
    c.in-Err.ensures.reads

pub returns-in-Ok-read_constants-clause-reads : goal.returns-in-Ok-read_constants-clause-reads
returns-in-Ok-read_constants-clause-reads g c =
    let names = texts_of c.args.names.now in
    same_value (compile_reading names) (λ (p : ConstantProgram). (c.in-Ok.descr, p)) (λ (x : Description × ConstantProgram). (x.0, x.1)) c.in-Ok-read_constants.program (c.in-Ok.descr, c.in-Ok-read_constants.program) _ _ _ _ refl
    (read_after (tables_reading names) (λ (d : Description). d) (compile_reading names) (λ (p : ConstantProgram). (c.in-Ok.descr, p)) c.in-Ok.descr _ _ _ _ _ _ _
    c.in-Ok.ensures.reads c.in-Ok-read_constants.ensures.reads)

pub returns-in-Err-read_constants-clause-reads : goal.returns-in-Err-read_constants-clause-reads
returns-in-Err-read_constants-clause-reads g c =
    let names = texts_of c.args.names.now in
    same_end (compile_reading names) (λ (p : ConstantProgram). (c.in-Ok.descr, p)) (λ (x : Description × ConstantProgram). (x.0, x.1)) c.in-Err-read_constants.status _ _ _ _
    (read_after (tables_reading names) (λ (d : Description). d) (compile_reading names) (λ (p : ConstantProgram). (c.in-Ok.descr, p)) c.in-Ok.descr _ _ _ _ _ _ _
    c.in-Ok.ensures.reads c.in-Err-read_constants.ensures.reads)
