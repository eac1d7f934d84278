use Rattle.std.proofs.Common.{◌≡◌, ◌≤◌, ◌<◌, ◌^◌, ◌++◌, length}
use Rattle.std.specs.Prelude.{All}
use Rattle.std.specs.List.{flat_map}
use Rattle.qc_constants.specs.ConstantProgram.{output_text}
use Rattle.qc_constants.proofs.reader.outputs.Given as goal

-- the outputs so far, and what is left
abbrev pub invariant-loop-word : goal.invariant-loop-word
invariant-loop-word l = record {
  few : length l.words ≤ 1000;
  small : All (λ word. word < 2 ^ 32) l.words;
  split : l.fn.bytes ≡ flat_map output_text l.words ++ l.rest;
}

abbrev pub decreases-loop-word : goal.decreases-loop-word
decreases-loop-word l = length l.rest
