use Rattle.std.proofs.Common.{refl}
use Rattle.qc_constants.proofs.ProgramTexts.{spelled, no_head, too_many_outputs, no_return}
use Rattle.qc_constants.proofs.reader.read_program.Goals as goal

pub returns-in_default-clause-none : goal.returns-in_default-clause-none
returns-in_default-clause-none c = λ none. no_head c.args.bytes.now (c.in_default.ensures.none refl)

pub returns-in-Ok-None-clause-none : goal.returns-in-Ok-None-clause-none
returns-in-Ok-None-clause-none c = λ none.
    let many = rw c.in-Ok-None.field-0-is at c.in-Ok-None.ensures.none in
    too_many_outputs c.args.bytes.now c.in-Some.body.now c.in-Some.ensures.some (many refl)

pub returns-in-Some-ending-clause-some : goal.returns-in-Some-ending-clause-some
returns-in-Some-ending-clause-some c =
    let starts = rw c.in-Ok-Some.field-0-is at c.in-Ok-Some.ensures.some in
    spelled c.args.bytes.now c.in-Some.body.now c.in-Ok-Some.outputs c.in-Ok-Some.rest.now c.in-Some-ending.returned
    c.in-Some.ensures.some starts c.in-Some-ending.ensures.some c.in-Some-ending.ensures.word

pub returns-in-None-clause-none : goal.returns-in-None-clause-none
returns-in-None-clause-none c = λ none.
    let starts = rw c.in-Ok-Some.field-0-is at c.in-Ok-Some.ensures.some in
    no_return c.args.bytes.now c.in-Some.body.now c.in-Ok-Some.outputs c.in-Ok-Some.rest.now c.in-Some.ensures.some starts (c.in-None.ensures.none refl)
