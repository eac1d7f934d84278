use Rattle.std.proofs.Common.{◌≢◌, ◌∙◌, sym, arith}
use Rattle.qc_text.specs.Inner.Scanning.{hexadecimal_run}
use Rattle.qc_text.proofs.Fronts.{front_decimal, front_hexadecimal}
use Rattle.qc_text.proofs.piece.number.Goals as goal

pub returns-then-hexadecimal-eq0 : goal.returns-then-hexadecimal-eq0
returns-then-hexadecimal-eq0 c =
    rw c.run_length-length.ensures.value
    (front_decimal c.args.first c.args.rest.now c.requires (sym c.hexadecimal_run-hexadecimal.ensures.value
    ∙ c.if-hexadecimal-eq0.true))

pub returns : goal.returns
returns c =
    let some : hexadecimal_run c.args.first c.args.rest.now ≢ 0 =
    omega (arith, c.hexadecimal_run-hexadecimal.ensures.value, c.if-hexadecimal-eq0.false) in
    rw c.hexadecimal_run-hexadecimal.ensures.value (front_hexadecimal c.args.first c.args.rest.now some)
