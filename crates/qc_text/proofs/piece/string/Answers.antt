use Rattle.std.proofs.Common.{sym, ap, ◌∙◌, get_or, ◌<◌, length, arith}
use Rattle.std.specs.List.{prefix_len}
use Rattle.qc_text.specs.Tokens.{is_string_byte}
use Rattle.qc_text.proofs.Fronts.{front_string, no_string}
use Rattle.qc_text.proofs.piece.string.Goals as goal
use Rattle.qc_text.proofs.piece.string.Goals.{else-inner-rest-via-then-inner-rest+else-rest-inner-eq34, else-inner-rest-via-else-inner-rest}

pub returns-then-rest-inner-eq34 : goal.returns-then-rest-inner-eq34
returns-then-rest-inner-eq34 c =
    let e = c.run_length-inner.ensures.value in
    let within : prefix_len is_string_byte c.args.rest.now < length c.args.rest.now = omega (arith, e) in
    rw e (front_string c.args.rest.now within (sym (ap (λ k. get_or c.args.rest.now k 0) e)
    ∙ c.if-rest-inner-eq34.true))

pub returns-else-inner-rest : goal.returns-else-inner-rest
returns-else-inner-rest c =
    let e = c.run_length-inner.ensures.value in
    no_string c.args.rest.now (λ within quote. elim c.else-inner-rest.branch [
      | else-inner-rest-via-then-inner-rest+else-rest-inner-eq34 w ↦
          w.if-rest-inner-eq34.false (ap (λ k. get_or c.args.rest.now k 0) e ∙ quote)
      | else-inner-rest-via-else-inner-rest w ↦ omega (arith, e, within, w.if-inner-rest.false)
    ])
