use Rattle.std.proofs.Common.{◌≡◌, length, sym, arith, [], ◌∷◌}
use Rattle.std.proofs.lemmas.Option.{slice_get_within}
use Rattle.qc_descr.specs.Reach.{coded_operands}
use Rattle.qc_descr.specs.Law.Operands.{length-coded}
use Rattle.qc_encode.proofs.Codable.{codable_more, coded_more}
use Rattle.qc_encode.proofs.Written.{written_front}
use Rattle.qc_encode.proofs.operands.code_operands.Goals as goal

pub loop-number-preserved : goal.loop-number-preserved
loop-number-preserved c = record {
  coded = coded_more c.args.coding.now.reaches c.as_slice-reaches.result.now c.args.at c.loop-number.number c.in-Some.value c.args.operands.now
      (0 ∷ 0 ∷ 0 ∷ 0 ∷ 0 ∷ 0 ∷ 0 ∷ 0 ∷ []) c.loop-number.coded _ c.as_slice-reaches.ensures c.requires.reaches c.loop-number-test.true
      (omega arith) c.loop-number.invariant.coded c.in-Some.ensures.some;
  codable = codable_more c.args.coding.now.bits c.as_slice-bits.result.now c.args.coding.now.reaches c.as_slice-reaches.result.now c.args.at
      c.loop-number.number c.args.operands.now _ c.as_slice-bits.ensures c.as_slice-reaches.ensures (omega arith)
      c.loop-number.invariant.codable c.in-Some.ensures.codable;
}

pub returns-clause-coded : goal.returns-clause-coded
returns-clause-coded c =
    let count : length (coded_operands c.args.coding.now.reaches c.args.at c.args.operands.now) ≡ length c.args.operands.now =
    length-coded c.args.coding.now.reaches c.args.at c.args.operands.now (sym c.requires.reaches) in
    let done : c.loop-number.number ≡ length c.args.operands.now = omega arith in
    written_front _ _ _ _ (rw done at c.loop-number.invariant.coded) count

pub returns-clause-codable : goal.returns-clause-codable
returns-clause-codable c = λ number reach is.
    c.loop-number.invariant.codable number reach
    (omega (arith, c.requires.reaches, c.loop-number-test.false, slice_get_within c.args.coding.now.reaches number reach is)) is
