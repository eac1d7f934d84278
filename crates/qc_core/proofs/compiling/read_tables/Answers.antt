use Rattle.std.proofs.Common.{refl, inr, ℕ}
use Rattle.std.specs.Prelude.{Vec, Ok, Err}
use Rattle.std.specs.declared.alloc.Global.{Global}
use Rattle.qc_command.specs.Command.{texts_of}
use Rattle.qc_core.specs.declared.answer.Fault.TheVariants.{NotYet}
use Rattle.qc_core.specs.declared.answer.Status.TheVariants.{Refused}
use Rattle.qc_core.specs.Compilation.{tables_step, tin32_reading}
use Rattle.qc_core.proofs.Exactness.{tables_of_file, tin32_good}
use Rattle.qc_core.proofs.Readings.{stepped, unread}
use Rattle.qc_core.proofs.Shipped.{test_fails}
use Rattle.qc_core.proofs.compiling.read_tables.Goals as goal

pub returns-in-Err : goal.returns-in-Err
returns-in-Err g c =
    let names = texts_of c.args.names.now in
    unread (tin32_reading names) (tables_step names) (λ (bytes : Vec ℕ Global). bytes.items) (λ (done : Unit {0}). c.args.descr.now) (tin32_good names) names (tables_of_file names) c.args.descr.now c.in-Err.status _ _ _ _
    c.requires.read c.in-Err.ensures

pub returns-then-is_tables : goal.returns-then-is_tables
returns-then-is_tables g c =
    let names = texts_of c.args.names.now in
    stepped (tin32_reading names) (tables_step names) (λ (done : Unit {0}). c.args.descr.now) c.args.descr.now c.in-Ok.bytes.items (Ok tt) _ _ _ _
    c.requires.read c.in-Ok.ensures.content c.in-Ok.ensures.files c.in-Ok.ensures.kept
    (tt, c.in-Ok.ensures.limit, (rw c.as_slice.ensures.value at c.is_tables.ensures).0 c.if-is_tables.true, refl) tt

pub returns : goal.returns
returns g c =
    let names = texts_of c.args.names.now in
    stepped (tin32_reading names) (tables_step names) (λ (done : Unit {0}). c.args.descr.now) c.args.descr.now c.in-Ok.bytes.items (Err (Refused (NotYet 3))) _ _ _ _
    c.requires.read c.in-Ok.ensures.content c.in-Ok.ensures.files c.in-Ok.ensures.kept
    tt (inr (c.in-Ok.ensures.limit, (test_fails c.is_tables.result c.if-is_tables.false (rw c.as_slice.ensures.value at c.is_tables.ensures), refl)))
