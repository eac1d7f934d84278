use Rattle.std.proofs.Common.{◌<◌, ℕ, List}
use Rattle.qc_descr.specs.Step.{EncodesAt}
use Rattle.qc_decode.proofs.decoder.Decoder.decode.Given as goal

abbrev pub invariant-loop-number : goal.invariant-loop-number
invariant-loop-number l =
    (k : ℕ) (operands bytes : List ℕ) → k < l.number → EncodesAt l.descr l.memory l.at k operands bytes → ⊥
