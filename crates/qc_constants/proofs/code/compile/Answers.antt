use Rattle.std.proofs.Common.{◌≡◌, refl, sym, ap, ◌∙◌, subst, length}
use Rattle.std.specs.List.{flat_map}
use Rattle.std.specs.Prelude.{◌++◌}
use Rattle.qc_terms.specs.declared.image.Image.{Image}
use Rattle.qc_descr.specs.Loading.{FitsMachine}
use Rattle.qc_constants.specs.Agreement.{Agrees}
use Rattle.qc_constants.specs.Code.{instructions_for, output_of}
use Rattle.qc_descr.specs.Encoding.{code_bytes}
use Rattle.qc_constants.proofs.Emitted.{code_size, image_fits, program_bytes}
use Rattle.qc_constants.proofs.Agreement.{agreement}
use Rattle.qc_constants.proofs.code.compile.Goals as goal

pub returns-clause-image : goal.returns-clause-image
returns-clause-image c =
    let descr = c.args.descr.now in
    let program = c.args.program.now in
    let outputs : c.push_outputs.new.code.items ≡ code_bytes descr 0 (flat_map output_of program.outputs) =
    c.in_ok-push_outputs.ensures ∙ ap (λ xs. xs ++ code_bytes descr (length xs) (flat_map output_of c.as_slice.result.now)) c.new-code.ensures.items
    ∙ ap (λ words. code_bytes descr 0 (flat_map output_of words)) c.as_slice.ensures in
    let code : c.from_vec.result ≡ code_bytes descr 0 (instructions_for program) =
    c.from_vec.ensures ∙ program_bytes descr program c.push_outputs.new.code.items _ outputs c.in_ok-push_return.ensures in
    rw (code, c.new.ensures) refl

pub returns-clause-agrees : goal.returns-clause-agrees
returns-clause-agrees c =
    subst (Agrees c.args.descr.now c.args.program.now) (sym (returns-clause-image c))
    (agreement c.args.descr.now c.requires.valid c.requires.machine c.one_instance.ensures c.args.program.now c.requires.program)

pub returns-clause-size : goal.returns-clause-size
returns-clause-size c =
    ap (λ (image : Image). length image.code) (returns-clause-image c) ∙ code_size c.args.descr.now c.requires.valid c.requires.machine c.args.program.now

pub returns-clause-fits : goal.returns-clause-fits
returns-clause-fits c =
    subst (FitsMachine c.args.descr.now) (sym (returns-clause-image c)) (image_fits c.args.descr.now c.requires.valid c.requires.machine c.args.program.now c.requires.program)
