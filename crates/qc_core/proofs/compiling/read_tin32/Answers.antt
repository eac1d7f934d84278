use Rattle.std.proofs.Common.{arith, refl}
use Rattle.std.specs.Prelude.{Ok, Err}
use Rattle.qc_command.specs.Command.{texts_of}
use Rattle.qc_descr.specs.declared.description.Description.{Description}
use Rattle.qc_core.specs.declared.answer.Fault.TheVariants.{NotYet}
use Rattle.qc_core.specs.declared.answer.Status.TheVariants.{NoMemory, Refused}
use Rattle.qc_core.specs.Compilation.{tin32_step}
use Rattle.qc_core.specs.Texts.{description_reading}
use Rattle.qc_core.proofs.Checks.{description_up_to}
use Rattle.qc_core.proofs.Readings.{always, stepped, stopped}
use Rattle.qc_core.proofs.Shipped.{test_fails}
use Rattle.qc_core.proofs.compiling.read_tin32.Goals as goal

pub returns-in-Err-clause-reads : goal.returns-in-Err-clause-reads
returns-in-Err-clause-reads g c =
    let names = texts_of c.args.names.now in
    stopped (description_reading names) tin32_step (λ (d : Description). d) (λ (d : Description). d) (description_up_to names 2 (omega arith)) c.in-Err.status _ _ _ _
    c.in-Err.ensures.reads

pub returns-in-Ok-true-clause-reads : goal.returns-in-Ok-true-clause-reads
returns-in-Ok-true-clause-reads g c =
    let names = texts_of c.args.names.now in
    stepped (description_reading names) tin32_step (λ (d : Description). d) c.in-Ok.descr tt (Ok c.in-Ok.descr) _ _ _ _
    c.in-Ok.ensures.reads.read (always _ (g.S.Shelf.files c.args.shelf.now) (λ files. refl)) c.in-Ok.ensures.reads.files c.in-Ok.ensures.reads.kept
    (c.in-Ok-true.ensures.0 c.in-Ok-true.field-0-test, refl) tt

pub returns-in-Ok-false-clause-reads : goal.returns-in-Ok-false-clause-reads
returns-in-Ok-false-clause-reads g c =
    let names = texts_of c.args.names.now in
    stepped (description_reading names) tin32_step (λ (d : Description). d) c.in-Ok.descr tt (Err (Refused (NotYet 5))) _ _ _ _
    c.in-Ok.ensures.reads.read (always _ (g.S.Shelf.files c.args.shelf.now) (λ files. refl)) c.in-Ok.ensures.reads.files c.in-Ok.ensures.reads.kept
    tt (test_fails c.in-Ok-false.field-0 c.in-Ok-false.field-0-test c.in-Ok-false.ensures, refl)

pub returns-in-Err-is_tin32-clause-reads : goal.returns-in-Err-is_tin32-clause-reads
returns-in-Err-is_tin32-clause-reads g c =
    let names = texts_of c.args.names.now in
    stepped (description_reading names) tin32_step (λ (d : Description). d) c.in-Ok.descr tt (Err NoMemory) _ _ _ _
    c.in-Ok.ensures.reads.read (always _ (g.S.Shelf.files c.args.shelf.now) (λ files. refl)) c.in-Ok.ensures.reads.files c.in-Ok.ensures.reads.kept
    tt tt
