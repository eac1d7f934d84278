use Rattle.std.proofs.Common.{refl, inr, ℕ}
use Rattle.std.specs.Prelude.{Vec, Ok, Err}
use Rattle.std.specs.declared.alloc.Global.{Global}
use Rattle.qc_command.specs.Command.{texts_of}
use Rattle.qc_constants.specs.declared.program.ConstantProgram.{ConstantProgram}
use Rattle.qc_core.specs.declared.answer.Fault.TheVariants.{NotYet}
use Rattle.qc_core.specs.declared.answer.Status.TheVariants.{Refused}
use Rattle.qc_core.specs.Compilation.{program_step, tables_reading}
use Rattle.qc_core.proofs.Exactness.{program_of_file, tables_good}
use Rattle.qc_core.proofs.Readings.{stepped, unread}
use Rattle.qc_core.proofs.compiling.read_constants.Goals as goal

pub returns-in-Err-clause-reads : goal.returns-in-Err-clause-reads
returns-in-Err-clause-reads g c =
    let names = texts_of c.args.names.now in
    unread (tables_reading names) (program_step names) (λ (bytes : Vec ℕ Global). bytes.items) (λ (p : ConstantProgram). (c.args.descr.now, p)) (tables_good names) names (program_of_file names) c.args.descr.now c.in-Err.status _ _ _ _
    c.requires.read c.in-Err.ensures

pub returns-in-Ok-Some-clause-reads : goal.returns-in-Ok-Some-clause-reads
returns-in-Ok-Some-clause-reads g c =
    let names = texts_of c.args.names.now in
    let text = rw (c.in-Ok-Some.field-0-is, c.as_slice.ensures.value) at c.in-Ok-Some.ensures.some in
    stepped (tables_reading names) (program_step names) (λ (p : ConstantProgram). (c.args.descr.now, p)) c.args.descr.now c.in-Ok.bytes.items (Ok c.in-Ok-Some.program) _ _ _ _
    c.requires.read c.in-Ok.ensures.content c.in-Ok.ensures.files c.in-Ok.ensures.kept
    (c.in-Ok-Some.program, c.in-Ok.ensures.limit, text, refl) tt

pub returns-in-Ok-None-clause-reads : goal.returns-in-Ok-None-clause-reads
returns-in-Ok-None-clause-reads g c =
    let names = texts_of c.args.names.now in
    let none = rw (c.in-Ok-None.field-0-is, c.as_slice.ensures.value) at c.in-Ok-None.ensures.none in
    stepped (tables_reading names) (program_step names) (λ (p : ConstantProgram). (c.args.descr.now, p)) c.args.descr.now c.in-Ok.bytes.items (Err (Refused (NotYet 4))) _ _ _ _
    c.requires.read c.in-Ok.ensures.content c.in-Ok.ensures.files c.in-Ok.ensures.kept
    tt (inr (c.in-Ok.ensures.limit, ((λ spells. none refl spells.0 spells.1), refl)))
