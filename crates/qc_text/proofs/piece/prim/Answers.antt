use Rattle.std.proofs.Common.{◌≡◌, ap, sym, ◌∙◌, length, arith}
use Rattle.qc_text.specs.Tokens.{is_name_start}
use Rattle.qc_text.proofs.Fronts.{front_prim, no_prim}
use Rattle.qc_text.proofs.Runs.{same_first}
use Rattle.qc_text.proofs.piece.prim.Goals as goal

pub returns-in_err-first : goal.returns-in_err-first
returns-in_err-first c =
    rw c.from_residual.ensures
    (no_prim c.args.rest.now (λ b bs e. absurd (omega (arith, ap length e, c.in_err-first.ensures.cases))))

pub returns-then-not-is_name_start : goal.returns-then-not-is_name_start
returns-then-not-is_name_start c =
    no_prim c.args.rest.now (λ b bs e.
    let same : c.in_ok-first.first.now ≡ b =
    same_first c.args.rest.now c.in_ok-first.first.now b c.in_ok-first.more.now bs c.in_ok-first.ensures.cases.0
    e in
    ap is_name_start (sym same) ∙ sym c.if-not-is_name_start.ensures)

pub returns : goal.returns
returns c =
    rw (c.in_ok-first.ensures.cases.0, c.run_length-length.ensures.value)
    (front_prim c.in_ok-first.first.now c.in_ok-first.more.now (sym c.if-not-is_name_start.ensures))
