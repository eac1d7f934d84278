use Rattle.std.proofs.Common.{◌∙◌, refl, sym, arith}
use Rattle.std.proofs.lemmas.List.{ext_get_or}
use Rattle.qc_descr.specs.Encoding.{coded_bytes}
use Rattle.qc_decode.proofs.bytes.has_bytes.Goals as goal
use Rattle.qc_descr.specs.Law.CodedBytes.{length-coded_bytes}

pub returns : goal.returns
returns c = (
  λ _. ext_get_or 0 c.args.bytes.now (coded_bytes c.args.order c.args.coding.now c.args.operands.now)
      (c.requires.size ∙ sym (length-coded_bytes c.args.order c.args.coding.now c.args.operands.now c.requires.tokens))
      (λ k h. c.loop-place.invariant k (omega arith)),
  λ _. refl,
)
