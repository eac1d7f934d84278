use Rattle.std.proofs.Common.{arith, refl, ℕ}
use Rattle.std.specs.Prelude.{Vec}
use Rattle.std.specs.declared.alloc.Global.{Global}
use Rattle.qc_command.specs.Command.{texts_of}
use Rattle.qc_descr.specs.declared.description.Description.{Description}
use Rattle.qc_terms.specs.declared.image.Image.{Image}
use Rattle.qc_core.specs.Runs.{image_reading, input_step, run_reading, setting_of}
use Rattle.qc_core.proofs.Exactness.{image_up_to}
use Rattle.qc_core.proofs.Readings.{read_after, same_end, same_value, still_read, stopped}
use Rattle.qc_core.proofs.simulation.read_setting.Goals as goal

pub read_input_file-requires-clause-read : goal.read_input_file-requires-clause-read
read_input_file-requires-clause-read g c =
    still_read (image_reading (texts_of c.args.names.now)) (λ (x : Description × Image). (x.0, x.1)) (c.in-Ok.both.0, c.in-Ok.both.1) _ _ _ _ c.in-Ok.ensures.reads

pub returns-in-Err-clause-reads : goal.returns-in-Err-clause-reads
returns-in-Err-clause-reads g c =
    let names = texts_of c.args.names.now in
    stopped (image_reading names) (input_step names) (λ (x : Description × Image). (x.0, x.1)) (λ (x : Description × Image × Vec ℕ Global). setting_of x.0 x.1 x.2.items) (image_up_to names 4 (omega arith)) c.in-Err.status _ _ _ _
    c.in-Err.ensures.reads

pub returns-in-Ok-read_input_file-clause-reads : goal.returns-in-Ok-read_input_file-clause-reads
returns-in-Ok-read_input_file-clause-reads g c =
    let names = texts_of c.args.names.now in
    same_value (run_reading names) (λ (words : Vec ℕ Global). setting_of c.in-Ok.both.0 c.in-Ok.both.1 words.items) (λ (x : Description × Image × Vec ℕ Global). setting_of x.0 x.1 x.2.items) c.in-Ok-read_input_file.input (c.in-Ok.both.0, c.in-Ok.both.1, c.in-Ok-read_input_file.input) _ _ _ _ refl
    (read_after (image_reading names) (λ (x : Description × Image). (x.0, x.1)) (run_reading names) (λ (words : Vec ℕ Global). setting_of c.in-Ok.both.0 c.in-Ok.both.1 words.items) (c.in-Ok.both.0, c.in-Ok.both.1) _ _ _ _ _ _ _
    c.in-Ok.ensures.reads c.in-Ok-read_input_file.ensures.reads)

pub returns-in-Err-read_input_file-clause-reads : goal.returns-in-Err-read_input_file-clause-reads
returns-in-Err-read_input_file-clause-reads g c =
    let names = texts_of c.args.names.now in
    same_end (run_reading names) (λ (words : Vec ℕ Global). setting_of c.in-Ok.both.0 c.in-Ok.both.1 words.items) (λ (x : Description × Image × Vec ℕ Global). setting_of x.0 x.1 x.2.items) c.in-Err-read_input_file.status _ _ _ _
    (read_after (image_reading names) (λ (x : Description × Image). (x.0, x.1)) (run_reading names) (λ (words : Vec ℕ Global). setting_of c.in-Ok.both.0 c.in-Ok.both.1 words.items) (c.in-Ok.both.0, c.in-Ok.both.1) _ _ _ _ _ _ _
    c.in-Ok.ensures.reads c.in-Err-read_input_file.ensures.reads)
